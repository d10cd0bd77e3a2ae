-- Codes of names and values are codes.
use Rattle.std.proofs.Common.{refl, ap}
use Rattle.gr_base.specs.declared.names.ChName.{ChName}
use Rattle.gr_base.specs.declared.values.Value.TheVariants as values
use Rattle.gr_keys.specs.Codes.{IsCode, number_code, pair_code}
use Rattle.gr_keys.specs.ValueCodes.{name_code, channel_name_code, value_code, cell_code}
use Rattle.gr_keys.proofs.CodeLemmas.{heads, other_marks, numbers, bits, integers, options, lists, pairs, seen_as}

pub names : IsCode name_code
names = lists number_code numbers

pub channel_names : IsCode channel_name_code
channel_names = seen_as (pair_code name_code number_code) (λ (c : ChName). (c.go, c.n)) (λ p. record { go = p.0; n = p.1 }) (λ c. refl) (pairs name_code number_code names numbers)

pub values_told : IsCode value_code
values_told (values.Int i) (values.Int j) xs ys e = let w = integers i j xs ys (heads _ _ _ _ e).1 in (ap values.Int w.0, w.1)
values_told (values.Bool a) (values.Bool b) xs ys e = let w = bits a b xs ys (heads _ _ _ _ e).1 in (ap values.Bool w.0, w.1)
values_told values.Unit values.Unit xs ys e = (refl, (heads _ _ _ _ e).1)
values_told (values.Chan c) (values.Chan d) xs ys e = let w = options channel_name_code channel_names c d xs ys (heads _ _ _ _ e).1 in (ap values.Chan w.0, w.1)
values_told (values.Int i) (values.Bool b) xs ys e = other_marks 0 1 _ _ (λ h. cc) e
values_told (values.Int i) values.Unit xs ys e = other_marks 0 2 _ _ (λ h. cc) e
values_told (values.Int i) (values.Chan d) xs ys e = other_marks 0 3 _ _ (λ h. cc) e
values_told (values.Bool a) (values.Int j) xs ys e = other_marks 1 0 _ _ (λ h. cc) e
values_told (values.Bool a) values.Unit xs ys e = other_marks 1 2 _ _ (λ h. cc) e
values_told (values.Bool a) (values.Chan d) xs ys e = other_marks 1 3 _ _ (λ h. cc) e
values_told values.Unit (values.Int j) xs ys e = other_marks 2 0 _ _ (λ h. cc) e
values_told values.Unit (values.Bool b) xs ys e = other_marks 2 1 _ _ (λ h. cc) e
values_told values.Unit (values.Chan d) xs ys e = other_marks 2 3 _ _ (λ h. cc) e
values_told (values.Chan c) (values.Int j) xs ys e = other_marks 3 0 _ _ (λ h. cc) e
values_told (values.Chan c) (values.Bool b) xs ys e = other_marks 3 1 _ _ (λ h. cc) e
values_told (values.Chan c) values.Unit xs ys e = other_marks 3 2 _ _ (λ h. cc) e

pub cells : IsCode cell_code
cells = options value_code values_told
