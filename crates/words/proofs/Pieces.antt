-- The first piece of a text ends at the first separator or at the end; the others are the pieces of what follows it.
use mathlib.Core.Bool.{Bool, true, false}
use mathlib.Core.List.{List, [], ◌∷◌, ◌++◌, append_assoc}
use mathlib.Core.Path.{◌≡◌, refl, ap, ◌∙◌}
use Prim.Native.Nat.{ℕ, zero, suc, ◌<◌}
use native.Mathlib.Omega.{arith}
use lib.Dec.{eqb}
use lib.ListN.{length, get_or}
use borrow.Author.Tests.{eqb-true}
use Rattle.sheet.specs.Words.{pieces}

-- what stands after the first piece: nothing, or a separator and the other pieces' text
pub data After (separator : ℕ) : List ℕ → List (List ℕ) → Type 0 where
  ended : After separator [] []
  more : (rest : List ℕ) → After separator (separator ∷ rest) (pieces separator rest)

-- what is a text and more, where the text is cut in two
pub cut_here : {x p : List ℕ} (q t tail : List ℕ) → x ≡ p ++ tail → p ≡ q ++ t → x ≡ q ++ (t ++ tail)
cut_here q t tail here e = here ∙ ap (λ (l : List ℕ). l ++ tail) e ∙ append_assoc q t tail

-- no separator stands in a piece
abbrev pub Whole : ℕ → List ℕ → Type 0
Whole separator q = (k : ℕ) → k < length q → eqb (get_or q k 0) separator ≡ false

pub record Cut (separator : ℕ) (t : List ℕ) : Type 0 where
  pub piece : List ℕ
  pub tail : List ℕ
  pub others : List (List ℕ)
  pub text : t ≡ piece ++ tail
  pub cut : pieces separator t ≡ piece ∷ others
  pub after : After separator tail others
  pub whole : Whole separator piece

pub cut_of : (separator : ℕ) (t : List ℕ) → Cut separator t
unfolding pieces
cut_of separator [] =
    record { piece = []; tail = []; others = []; text = refl; cut = refl; after = ended; whole = λ k l. absurd (omega arith) }
cut_of separator (c ∷ cs) = by_byte (eqb c separator) refl (cut_of separator cs)
  where
    by_byte : (b : Bool) → eqb c separator ≡ b → Cut separator cs → Cut separator (c ∷ cs)
    by_byte true e w =
        record {
          piece = [];
          tail = c ∷ cs;
          others = pieces separator cs;
          text = refl;
          cut = rw (pieces, e) refl;
          after = rw (eqb-true c separator e) (more cs);
          whole = λ k l. absurd (omega arith);
        }
    by_byte false e w =
        record {
          piece = c ∷ w.piece;
          tail = w.tail;
          others = w.others;
          text = ap (λ (l : List ℕ). c ∷ l) w.text;
          cut = rw (pieces, e, w.cut) refl;
          after = w.after;
          whole = bytes;
        }
      where
        bytes : Whole separator (c ∷ w.piece)
        bytes zero l = e
        bytes (suc k) l = w.whole k (omega arith)
