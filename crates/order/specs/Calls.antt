-- Calls that work on numbered rows one after the other: what is asked of them, when two of them meet, and what a run of them gives.
use Rattle.std.specs.Prelude.{◌≡◌, ℕ, Bool, true, false, ◌⊎◌, List, [], ◌∷◌}

-- Calls, and the states that they work on. In a state each row number has a value. A call has an outcome in a state, and leaves
-- a state after it. Which rows it writes, and which it concerns, is known from the call alone.
pub record Calls (Call Outcome Value State : Type 0) : Type 0 where
  pub row : State → ℕ → Value
  pub outcome : Call → State → Outcome
  pub after : Call → State → State
  pub writes : Call → ℕ → Bool
  pub concerns : Call → ℕ → Bool

module _ {Call Outcome Value State : Type 0} (calls : Calls Call Outcome Value State) where
  -- two states agree when every row has the same value in both
  abbrev pub Agree : State → State → Type 0
  Agree s s' = (r : ℕ) → calls.row s r ≡ calls.row s' r

  -- two states agree for a call when every row that it concerns has the same value in both
  abbrev pub AgreeFor : Call → State → State → Type 0
  AgreeFor c s s' = (r : ℕ) → calls.concerns c r ≡ true → calls.row s r ≡ calls.row s' r

  -- Calls are local when each works by its rows alone: it concerns what it writes, it leaves alone every row that it does not
  -- write, and its outcome and the new value of each row that it writes depend only on the rows that it concerns.
  pub record Local : Type 0 where
    pub written_concerns : (c : Call) (r : ℕ) → calls.writes c r ≡ true → calls.concerns c r ≡ true
    pub others_stay : (c : Call) (s : State) (r : ℕ) → calls.writes c r ≡ false → calls.row (calls.after c s) r ≡ calls.row s r
    pub outcome_by : (c : Call) (s s' : State) → AgreeFor c s s' → calls.outcome c s ≡ calls.outcome c s'
    pub written_by : (c : Call) (s s' : State) → AgreeFor c s s' → (r : ℕ) → calls.writes c r ≡ true →
        calls.row (calls.after c s) r ≡ calls.row (calls.after c s') r

  -- two calls are alike when they have the same outcome in every state, leave states that agree, and write and concern the same rows
  pub record Alike (Same : Outcome → Outcome → Type 0) (c d : Call) : Type 0 where
    pub outcome : (s : State) → Same (calls.outcome c s) (calls.outcome d s)
    pub after : (s : State) → Agree (calls.after c s) (calls.after d s)
    pub writes : (r : ℕ) → calls.writes c r ≡ calls.writes d r
    pub concerns : (r : ℕ) → calls.concerns c r ≡ calls.concerns d r

  -- what the theorem on order asks: calls are local, and a call that is recast is alike
  pub record Premises (Recast : Call → Call → Type 0) (Same : Outcome → Outcome → Type 0) : Type 0 where
    pub local : Local
    pub recast : (c d : Call) → Recast c d → Alike Same c d

  -- two calls meet when one writes a row that the other concerns
  abbrev pub Meet : Call → Call → Type 0
  Meet c d =
      (r : ℕ) × (((calls.writes c r ≡ true) × (calls.concerns d r ≡ true)) ⊎ ((calls.writes d r ≡ true) × (calls.concerns c r ≡ true)))

  -- the outcomes of a list of calls that run one after the other, each in the state that the one before it leaves
  abbrev pub outcomes : List Call → State → List Outcome
  outcomes [] s = []
  outcomes (c ∷ l) s = calls.outcome c s ∷ outcomes l (calls.after c s)

  -- the state that such a run leaves
  abbrev pub final : List Call → State → State
  final [] s = s
  final (c ∷ l) s = final l (calls.after c s)
