-- The bytes of an answer as far as it is put together.
use Rattle.std.specs.Prelude.{ℕ, List, take}
use Rattle.chain.specs.declared.answer.ReadAnswer.{ReadAnswer}

abbrev pub built : ReadAnswer → List ℕ
built a = take a.len a.bytes
