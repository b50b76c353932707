-- Tests of numbers and of lists.
use Rattle.std.specs.Prelude.{Bool, true, false, cond, ◌&&◌, ◌||◌, List, [], ◌∷◌, ℕ, zero, suc, ◌+◌, leb}

abbrev pub every_below : (ℕ → Bool) → ℕ → Bool
every_below f zero = true
every_below f (suc n) = f n && every_below f n

-- both ends counted
abbrev pub within : ℕ → ℕ → ℕ → Bool
within low high n = leb low n && leb n high

-- how many of the k numbers from i on pass the test
abbrev pub count_from : (ℕ → Bool) → ℕ → ℕ → ℕ
count_from test zero i = 0
count_from test (suc k) i = cond (test i) 1 0 + count_from test k (suc i)

-- some element passes the test; every one does
abbrev pub any_of : {A : Type 0} → (A → Bool) → List A → Bool
any_of test [] = false
any_of test (x ∷ xs) = test x || any_of test xs

abbrev pub all_of : {A : Type 0} → (A → Bool) → List A → Bool
all_of test [] = true
all_of test (x ∷ xs) = test x && all_of test xs

-- the least of the k numbers from i on that passes the test; the first past them where none does
unfoldable pub least_from : (ℕ → Bool) → ℕ → ℕ → ℕ
least_from test zero i = i
least_from test (suc k) i = elim (test i) [ true ↦ i | false ↦ least_from test k (suc i) ]

-- one more than the greatest of the k numbers from i on that passes the test; i where none does
unfoldable pub last_from : (ℕ → Bool) → ℕ → ℕ → ℕ
last_from test zero i = i
last_from test (suc k) i = elim (test (i + k)) [ true ↦ i + k + 1 | false ↦ last_from test k i ]
