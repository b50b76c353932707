-- The sheets hold what the document says: the definitions are computed.
use mathlib.Core.Bool.{true}
use mathlib.Core.Path.{◌≡◌, refl}
use Rattle.sheet.specs.Cases.{case_h, case_i, case_j, case_k, case_l, case_range, case_place, case_except, case_ranks, case_june, case_leap, case_months, case_year_places, case_year_ordinals, case_elections, case_year_days, case_year_ranks, with_seconds, without_seconds, case_seconds, case_second_ranks, case_second_digits}
use Rattle.sheet.specs.Open.{opened}

pub h : case_h ≡ true
unfolding case_h opened
h = refl

pub i : case_i ≡ true
unfolding case_i opened
i = refl

pub j : case_j ≡ true
unfolding case_j opened
j = refl

pub k : case_k ≡ true
unfolding case_k opened
k = refl

pub l : case_l 365 9497 ≡ true
unfolding case_l opened
l = refl

pub range : case_range ≡ true
unfolding case_range opened
range = refl

pub place : case_place ≡ true
unfolding case_place opened
place = refl

pub except : case_except ≡ true
unfolding case_except opened
except = refl

pub ranks : case_ranks ≡ true
unfolding case_ranks opened
ranks = refl

pub june : case_june ≡ true
unfolding case_june opened
june = refl

pub leap : case_leap ≡ true
unfolding case_leap opened
leap = refl

pub months : case_months ≡ true
unfolding case_months opened
months = refl

pub year_places : case_year_places ≡ true
unfolding case_year_places opened
year_places = refl

pub year_ordinals : case_year_ordinals ≡ true
unfolding case_year_ordinals opened
year_ordinals = refl

pub elections : case_elections ≡ true
unfolding case_elections opened
elections = refl

pub year_days : case_year_days ≡ true
unfolding case_year_days opened
year_days = refl

pub year_ranks : case_year_ranks ≡ true
unfolding case_year_ranks opened
year_ranks = refl

pub seconds : case_seconds ≡ true
unfolding case_seconds opened
seconds = refl

-- line by line the same forms
pub both_forms : with_seconds ≡ without_seconds
unfolding with_seconds without_seconds opened
both_forms = refl

pub second_ranks : case_second_ranks ≡ true
unfolding case_second_ranks opened
second_ranks = refl

pub second_digits : case_second_digits ≡ true
unfolding case_second_digits opened
second_digits = refl
