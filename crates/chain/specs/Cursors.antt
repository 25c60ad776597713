-- Places in the data of a message, and what is told with the place behind it.
use Rattle.std.specs.Prelude.{◌≡◌, ℕ, ◌+◌, ◌-◌, ◌≤◌, List, ◌∷◌, length, take, drop, Ok, Err, Result, IfOk}
use Rattle.chain.specs.declared.cursor.Cursor.{Cursor}
use Rattle.chain.specs.declared.fault.RackFault.{RackFault}

-- the bytes from a place on
abbrev pub rest : Cursor → List ℕ
rest c = drop c.at c.message.now

-- a byte is next at c, and d is the place behind it
abbrev pub Next : Cursor → ℕ → Cursor → Type 0
Next c b d = (rest c ≡ b ∷ rest d) × (d.at ≡ c.at + 1) × (d.message.now ≡ c.message.now)

-- the n bytes v are next at c, and d is the place behind them
abbrev pub Front : Cursor → ℕ → List ℕ → Cursor → Type 0
Front c n v d = (v ≡ take n (rest c)) × (n ≤ length (rest c)) × (d.at ≡ c.at + n) × (d.message.now ≡ c.message.now)

-- d is not before c, and in the same message
abbrev pub Behind : Cursor → Cursor → Type 0
Behind c d = (c.at ≤ d.at) × (d.message.now ≡ c.message.now)

-- what is told at c with the place behind it, said with how many bytes it takes
abbrev pub counted : {A B : Type 0} → (A → B) → Cursor → Result (A × Cursor) RackFault → Result (B × ℕ) RackFault
counted f c (Ok p) = Ok (f p.0, p.1.at - c.at)
counted f c (Err e) = Err e

-- the code tells what a definition says, and its place is behind what it takes
abbrev pub Tells : {A B : Type 0} → (A → B) → Cursor → Result (A × Cursor) RackFault → Result (B × ℕ) RackFault → Type 0
Tells f c told said = (counted f c told ≡ said) × IfOk told (λ p. Behind c p.1)

-- the same of what is passed over
abbrev pub passed : Cursor → Result Cursor RackFault → Result ℕ RackFault
passed c (Ok d) = Ok (d.at - c.at)
passed c (Err e) = Err e

abbrev pub Passes : Cursor → Result Cursor RackFault → Result ℕ RackFault → Type 0
Passes c told said = (passed c told ≡ said) × IfOk told (λ d. Behind c d)
