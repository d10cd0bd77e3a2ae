-- Texts that get longer at their end.
use Rattle.std.proofs.Common.{◌≡◌, ℕ, List, [], ◌++◌, length, take, sym, ap, ◌∙◌, append-nil, append_assoc, arith}
use Rattle.std.proofs.lemmas.List.{take_all, take-append-le}
use Rattle.gr_survey.specs.StepTexts.{Grows}

pub grows_same : (a b : List ℕ) → b ≡ a → Grows a b
grows_same a b e = ([], e ∙ sym (append-nil a))

pub grows_append : (a b c : List ℕ) → b ≡ a ++ c → Grows a b
grows_append a b c e = (c, e)

pub grows_then : (a b c : List ℕ) → Grows a b → Grows b c → Grows a c
grows_then a b c h k = (h.0 ++ k.0, k.1 ∙ ap (λ t. t ++ k.0) h.1 ∙ append_assoc a h.0 k.0)

pub cut_back : (a b : List ℕ) → Grows a b → take (length a) b ≡ a
cut_back a b h = rw h.1 (take-append-le (length a) a h.0 (omega arith) ∙ take_all (length a) a (omega arith))
