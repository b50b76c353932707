-- The bytes that a line spells: pair by pair, and where there are any.
use Rattle.std.specs.Prelude.{Option, None, Some}
use mathlib.Core.Bool.{Bool, true, false, ◌&&◌, and-eq-true_iff}
use mathlib.Core.List.{List, [], ◌∷◌}
use mathlib.Core.Path.{◌≡◌, refl, ap, ◌∙◌}
use Prim.Native.Nat.{ℕ, suc, ◌+◌, ◌*◌, ◌%◌, ◌<◌}
use native.Mathlib.Omega.{arith}
use borrow.Author.Tests.{lt-ltb, ltb-true, eq-eqb, ne_eqb}
use lib.Dec.{eqb}
use Rattle.std.specs.List.{list_all}
use lib.ListN.{length}
use Rattle.calendar.specs.Below.{all_of}
use Rattle.hex_lines.specs.Hex.{digit_value, is_digit, line_bytes, spells}

-- the first two digits of a line that spells bytes, and the others
pub record Spelt (a b : ℕ) (cs bytes : List ℕ) : Type 0 where
  pub high : digit_value a < 16
  pub low : digit_value b < 16
  pub rest : List ℕ
  pub more : line_bytes cs ≡ Some rest
  pub made : bytes ≡ (16 * digit_value a + digit_value b) ∷ rest

no_bytes : {bytes : List ℕ} {A : Type 0} → None ≡ Some bytes → A
no_bytes e = let z : ◌≡◌ {A = ℕ} 0 1 = cc in absurd (omega arith)

-- two digits' byte before the other bytes
abbrev paired : ℕ → Bool → Option (List ℕ) → Option (List ℕ)
paired d t o = elim t [ true ↦ elim o [ None ↦ None | Some bs ↦ Some (d ∷ bs) ] | false ↦ None ]

pair_of : (a b : ℕ) (cs bytes : List ℕ) (t : Bool) (o : Option (List ℕ)) → (is_digit a && is_digit b) ≡ t → line_bytes cs ≡ o
    → paired (16 * digit_value a + digit_value b) t o ≡ Some bytes → Spelt a b cs bytes
pair_of a b cs bytes true (Some bs) p q e =
    record {
      high = ltb-true _ _ ((and-eq-true_iff (is_digit a) (is_digit b)).0 p).0;
      low = ltb-true _ _ ((and-eq-true_iff (is_digit a) (is_digit b)).0 p).1;
      rest = bs;
      more = q;
      made = cc;
    }
pair_of a b cs bytes true None p q e = no_bytes e
pair_of a b cs bytes false o p q e = no_bytes e

pub spelt : (a b : ℕ) (cs bytes : List ℕ) → line_bytes (a ∷ b ∷ cs) ≡ Some bytes → Spelt a b cs bytes
unfolding line_bytes
spelt a b cs bytes e = pair_of a b cs bytes (is_digit a && is_digit b) (line_bytes cs) refl refl e

pub one_digit : (a : ℕ) (bytes : List ℕ) {A : Type 0} → line_bytes (a ∷ []) ≡ Some bytes → A
unfolding line_bytes
one_digit a bytes e = no_bytes e

pub no_digits : (bytes : List ℕ) → line_bytes [] ≡ Some bytes → bytes ≡ []
unfolding line_bytes
no_digits bytes e = cc

pub nothing_spells : line_bytes [] ≡ Some []
unfolding line_bytes
nothing_spells = refl

pub spelt_back : (a b : ℕ) (cs rest : List ℕ) → digit_value a < 16 → digit_value b < 16 → line_bytes cs ≡ Some rest
    → line_bytes (a ∷ b ∷ cs) ≡ Some ((16 * digit_value a + digit_value b) ∷ rest)
unfolding line_bytes
spelt_back a b cs rest h l e =
    let d = 16 * digit_value a + digit_value b in
    let t : (is_digit a && is_digit b) ≡ true = rw (lt-ltb (digit_value a) 16 h, lt-ltb (digit_value b) 16 l) in
    ap (λ (u : Bool). paired d u (line_bytes cs)) t ∙ ap (λ (o : Option (List ℕ)). paired d true o) e

-- whether there are any bytes
abbrev pub is_some : {A : Type 0} → Option A → Bool
is_some None = false
is_some (Some a) = true

even_two : (n : ℕ) → eqb (suc (suc n) % 2) 0 ≡ eqb (n % 2) 0
even_two n = ap (λ (k : ℕ). eqb k 0) {x = suc (suc n) % 2} {y = n % 2} (omega arith)

join : (a b e all : Bool) (o : Option (List ℕ)) (d : ℕ) → (e && all) ≡ is_some o
    → (e && (a && (b && all))) ≡ is_some (paired d (a && b) o)
join true true e all None d h = h
join true true e all (Some bs) d h = h
join true false true all o d h = refl
join true false false all o d h = refl
join false b true all o d h = refl
join false b false all o d h = refl

-- a line spells bytes exactly where it is an even number of digits and nothing else
pub spells_some : (line : List ℕ) → spells line ≡ is_some (line_bytes line)
unfolding spells line_bytes
spells_some [] = refl
spells_some (a ∷ []) = refl
spells_some (a ∷ b ∷ cs) =
    rw (even_two (length cs))
    (join (is_digit a) (is_digit b) (eqb (length cs % 2) 0) (all_of is_digit cs) (line_bytes cs) (16 * digit_value a + digit_value b) (spells_some cs))

-- the test of every digit
all_of_lem : (line : List ℕ) → all_of is_digit line ≡ list_all is_digit line
all_of_lem [] = refl
all_of_lem (c ∷ cs) = ap (λ (b : Bool). is_digit c && b) (all_of_lem cs)

pub spells_odd : (line : List ℕ) → (length line % 2 ≡ 0 → ⊥) → false ≡ spells line
unfolding spells
spells_odd line n = rw (ne_eqb (length line % 2) 0 n)

pub spells_even : (line : List ℕ) → length line % 2 ≡ 0 → list_all is_digit line ≡ spells line
unfolding spells
spells_even line e = rw (eq-eqb (length line % 2) 0 e, all_of_lem line)
