-- The loop's invariant: the word is the first of those from the place on, further on by the place.
use Rattle.std.proofs.Common.{◌≡◌, ℕ, ◌+◌}
use Rattle.words.specs.Answers.{made_read}
use Rattle.words.proofs.Named.{one_from}
use Rattle.words.proofs.cursor.Cursor.one_of.Given as goal

abbrev pub invariant-loop-place : goal.invariant-loop-place
invariant-loop-place l = one_from l.s l.self.at l.words 0 ≡ made_read (λ (j : ℕ). l.place + j) (one_from l.s l.self.at l.words l.place)
