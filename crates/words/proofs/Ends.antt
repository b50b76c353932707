-- What may stand after a value of a line.
use mathlib.Core.Bool.{false}
use mathlib.Core.List.{List, [], ◌∷◌}
use mathlib.Core.Path.{◌≡◌, refl}
use Prim.Native.Nat.{ℕ}
use lib.Dec.{eqb}
use lib.ListN.{get_or}
use Rattle.words.specs.Reads.{digits_in}
use Rattle.words.proofs.Forms.{Stops}

-- nothing, a space, a comma, `;` or `=`
pub data End : List ℕ → Type 0 where
  nothing : End []
  space : (rest : List ℕ) → End (32 ∷ rest)
  comma : (rest : List ℕ) → End (44 ∷ rest)
  semicolon : (rest : List ℕ) → End (59 ∷ rest)
  equals : (rest : List ℕ) → End (61 ∷ rest)

-- what holds of each first byte
pub end_byte : {tail : List ℕ} (P : ℕ → Type 0) → P 0 → P 32 → P 44 → P 59 → P 61 → End tail → P (get_or tail 0 0)
end_byte P a b c d e nothing = a
end_byte P a b c d e (space rest) = b
end_byte P a b c d e (comma rest) = c
end_byte P a b c d e (semicolon rest) = d
end_byte P a b c d e (equals rest) = e

pub end_digits : {tail : List ℕ} → End tail → digits_in tail ≡ 0
unfolding digits_in
end_digits nothing = refl
end_digits (space rest) = refl
end_digits (comma rest) = refl
end_digits (semicolon rest) = refl
end_digits (equals rest) = refl

pub end_stops : {tail : List ℕ} → End tail → Stops tail
end_stops t =
    record {
      digits = end_digits t;
      plus = end_byte (λ c. eqb c 43 ≡ false) refl refl refl refl refl t;
      minus = end_byte (λ c. eqb c 45 ≡ false) refl refl refl refl refl t;
    }

-- no T stands there
pub end_letter : {tail : List ℕ} → End tail → eqb (get_or tail 0 0) 84 ≡ false
end_letter = end_byte (λ c. eqb c 84 ≡ false) refl refl refl refl refl
