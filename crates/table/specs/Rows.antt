-- A row: its rules, what it admits, and its default.
use Rattle.std.specs.Prelude.{ℕ, Bool, true, false, cond, not, ◌&&◌, ◌||◌, List, [], ◌∷◌, length, Some, Option, ◌==◌, nat_le}
use Rattle.value.specs.Values.{bytes_of}
use Rattle.number.specs.Numbers.{ReadBack, char, integer, long, float}
use Rattle.number.specs.Ranges.{in_range, in_order}
use Rattle.table.specs.declared.Kind.{Kind}
use Rattle.table.specs.declared.Kind.TheVariants.{Char, Integer, Long, Float, Text, OpenText}
use Rattle.table.specs.declared.Row.{Row}

-- a row by what it says: as the code has it, with the bytes of its text default
pub record PlainRow : Type 0 where
  pub process : ℕ
  pub parameter : ℕ
  pub kind : Kind
  pub readable : Bool
  pub writable : Bool
  pub secured : Bool
  pub feed : ℕ
  pub flow : ℕ
  pub text : List ℕ

-- what a row of the code says
abbrev pub plain : Row → PlainRow
plain r = record {
  process = r.process;
  parameter = r.parameter;
  kind = r.kind;
  readable = r.readable;
  writable = r.writable;
  secured = r.secured;
  feed = r.feed;
  flow = r.full_flow;
  text = bytes_of r.text;
}

-- none of the bytes is 00
abbrev pub no_zero : List ℕ → Bool
no_zero [] = true
no_zero (b ∷ bs) = not (b == 0) && no_zero bs

-- 0 to 24 bytes, none of them 00
abbrev pub is_open_text : List ℕ → Bool
is_open_text bs = nat_le (length bs) 24 && no_zero bs

-- the bytes are a value of the kind
abbrev pub admitted : Kind → List ℕ → Bool
admitted (Char r) bs = in_range char r bs
admitted (Integer r) bs = in_range integer r bs
admitted (Long r) bs = in_range long r bs
admitted (Float r) bs = in_range float r bs
admitted (Text n) bs = length bs == n
admitted OpenText bs = is_open_text bs

-- least ≤ default ≤ greatest and no text default; or a fixed length of 1 to 24, and a text default of the kind's own shape
abbrev pub kind_ruled : Kind → List ℕ → Bool
kind_ruled (Char r) text = in_order char r && length text == 0
kind_ruled (Integer r) text = in_order integer r && length text == 0
kind_ruled (Long r) text = in_order long r && length text == 0
kind_ruled (Float r) text = in_order float r && length text == 0
kind_ruled (Text n) text = nat_le 1 n && (nat_le n 24 && length text == n)
kind_ruled OpenText text = is_open_text text

-- only an integer row may draw on a feed
abbrev pub is_integer : Kind → Bool
is_integer (Char r) = false
is_integer (Integer r) = true
is_integer (Long r) = false
is_integer (Float r) = false
is_integer (Text n) = false
is_integer OpenText = false

-- no feed and no flow; or a feed of 1 to 8 under an integer row, with a full flow of 1 to 1,000,000 ml/min
abbrev pub feed_ruled : Kind → (feed flow : ℕ) → Bool
feed_ruled kind feed flow = cond (feed == 0) (flow == 0) (is_integer kind && (nat_le feed 8 && (nat_le 1 flow && nat_le flow 1000000)))

-- the rules that speak of a row alone
abbrev pub keeps_rules : PlainRow → Bool
keeps_rules r = nat_le r.process 127 && (nat_le r.parameter 31 && ((r.readable || r.writable) && (kind_ruled r.kind r.text && feed_ruled r.kind r.feed r.flow)))

-- a kind's default as bytes, where a text's is given; a float that is not a number has none
abbrev pub kind_default : Kind → List ℕ → Option (List ℕ)
kind_default (Char r) text = char.writes r.«default»
kind_default (Integer r) text = integer.writes r.«default»
kind_default (Long r) text = long.writes r.«default»
kind_default (Float r) text = float.writes r.«default»
kind_default (Text n) text = Some text
kind_default OpenText text = Some text

-- the default of a row as bytes
abbrev pub default_of : PlainRow → Option (List ℕ)
default_of r = kind_default r.kind r.text

-- the bytes of a number's default are read as the default
abbrev pub ReadsDefault : Kind → Type 0
ReadsDefault (Char r) = ReadBack char r.«default»
ReadsDefault (Integer r) = ReadBack integer r.«default»
ReadsDefault (Long r) = ReadBack long r.«default»
ReadsDefault (Float r) = ReadBack float r.«default»
ReadsDefault (Text n) = Unit {0}
ReadsDefault OpenText = Unit {0}

-- the row has the process and the parameter
abbrev pub has_pair : ℕ → ℕ → PlainRow → Bool
has_pair p q r = r.process == p && r.parameter == q

-- row 0 of every table, "initreset"
abbrev pub reset_row : PlainRow
reset_row = record {
  process = 0;
  parameter = 10;
  kind = Char (record { least = 0; greatest = 255; «default» = 82 });
  readable = true;
  writable = true;
  secured = false;
  feed = 0;
  flow = 0;
  text = [];
}
