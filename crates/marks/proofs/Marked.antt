-- Every marked case of the table holds: the definitions are computed, one case after the other.
use mathlib.Core.Bool.{true}
use mathlib.Core.Path.{◌≡◌, refl}
use Rattle.calendar.specs.Below.{all_of}
use Rattle.sheet.proofs.Cases.{h, i}
use Rattle.sheet.specs.Cases.{case_l, case_j, case_k, thirds, workdays}
use Rattle.marks.specs.Marks.{marks, mark_a, mark_b, mark_c, mark_d, mark_e, mark_f, mark_g, mark_j, mark_k}
use Rattle.marks.specs.Open.{opened}

a : mark_a ≡ true
unfolding mark_a opened
a = refl

b : mark_b ≡ true
unfolding mark_b opened
b = refl

c : mark_c ≡ true
unfolding mark_c opened
c = refl

d : mark_d ≡ true
unfolding mark_d opened
d = refl

e : mark_e ≡ true
unfolding mark_e opened
e = refl

f : mark_f ≡ true
unfolding mark_f opened
f = refl

g : mark_g ≡ true
unfolding mark_g opened
g = refl

j : mark_j ≡ true
unfolding mark_j case_j thirds opened
j = refl

k : mark_k ≡ true
unfolding mark_k case_k workdays opened
k = refl

l0 : case_l 7305 0 ≡ true
unfolding case_l opened
l0 = refl

l1 : case_l 7305 7305 ≡ true
unfolding case_l opened
l1 = refl

l2 : case_l 7305 14610 ≡ true
unfolding case_l opened
l2 = refl

l3 : case_l 7305 21915 ≡ true
unfolding case_l opened
l3 = refl

l4 : case_l 7305 29220 ≡ true
unfolding case_l opened
l4 = refl

pub marked : all_of (λ b. b) marks ≡ true
unfolding marks
marked = simp (a, b, c, d, e, f, g, h, i, j, k, l0, l1, l2, l3, l4)
