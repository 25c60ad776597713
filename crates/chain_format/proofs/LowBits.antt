-- The bits of process bytes, and of parameter and index bytes.
use Rattle.std.proofs.Common.{◌≡◌, ℕ, ◌+◌, ◌*◌, ◌/◌, ◌%◌, ◌<◌, ◌≤◌, refl, ◌∙◌, arith}
use lib.Bits.{and_mask, and_high}
use Rattle.table.specs.declared.Kind.{Kind}
use Rattle.table.specs.declared.Kind.TheVariants.{Char, Integer, Long, Float, Text, OpenText}
use Rattle.chain.specs.Values.{type_bits}
use Rattle.chain.specs.Chains.{process_of, parameter_of, type_of}

pub process_low : (g : ℕ) → process_of g ≡ g % 128
process_low g = and_mask g 7

-- the type bits are two bits above five
pub type_bits_lem : (kind : Kind) → (j : ℕ) × (j < 4) × (type_bits kind ≡ 32 * j)
type_bits_lem (Char r) = (0, omega arith, refl)
type_bits_lem (Integer r) = (1, omega arith, refl)
type_bits_lem (Long r) = (2, omega arith, refl)
type_bits_lem (Float r) = (2, omega arith, refl)
type_bits_lem (Text n) = (3, omega arith, refl)
type_bits_lem OpenText = (3, omega arith, refl)

pub type_small : (kind : Kind) (q : ℕ) → q ≤ 31 → type_bits kind + q ≤ 127
type_small kind q l =
    let t = type_bits_lem kind in
    let j : t.0 < 4 = t.1 in
    let e : type_bits kind ≡ 32 * t.0 = t.2 in
    omega arith

-- a byte with the type bits of a kind and five bits more
pub low_bits : (b : ℕ) (kind : Kind) (q : ℕ) → b % 128 ≡ type_bits kind + q → q ≤ 31 → (parameter_of b ≡ q) × (type_of b ≡ type_bits kind)
low_bits b kind q m l =
    let t = type_bits_lem kind in
    let j : t.0 < 4 = t.1 in
    let e : type_bits kind ≡ 32 * t.0 = t.2 in
    let low : parameter_of b ≡ b % 32 = and_mask b 5 in
    let high : type_of b ≡ b / 32 % 4 * 32 = and_high b 2 5 in
    (low ∙ omega arith, high ∙ omega arith)

-- a byte is made of its type bits and its five low bits
pub parameter_small : (b : ℕ) → parameter_of b ≤ 31
parameter_small b = let low : parameter_of b ≡ b % 32 = and_mask b 5 in omega arith

pub made_of : (b : ℕ) → b % 128 ≡ type_of b + parameter_of b
made_of b =
    let low : parameter_of b ≡ b % 32 = and_mask b 5 in
    let high : type_of b ≡ b / 32 % 4 * 32 = and_high b 2 5 in
    omega arith
