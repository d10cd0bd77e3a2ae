-- Bytes taken and bytes appended, one after another.
use Rattle.std.proofs.Common.{ℕ, List, [], ◌++◌, refl, sym, ap, ◌∙◌, append_assoc, append-nil, None, Some, OnSome}
use Rattle.std.specs.declared.option.Option.{Option}
use Rattle.std.specs.Io.KnownBytes.{Keeps, Consumes, Appends, IsAtEnd}

pub Keeps-refl : (a : Option (List ℕ)) → Keeps a a
Keeps-refl None = tt
Keeps-refl (Some xs) = refl

pub Keeps-then : (a b c : Option (List ℕ)) → Keeps a b → Keeps b c → Keeps a c
Keeps-then None b c h k = tt
Keeps-then (Some xs) None c h k = absurd h
Keeps-then (Some xs) (Some ys) None h k = absurd k
Keeps-then (Some xs) (Some ys) (Some zs) h k = k ∙ h

pub Consumes-nil : (a b : Option (List ℕ)) → Keeps a b → Consumes a b []
Consumes-nil None b h = tt
Consumes-nil (Some xs) None h = absurd h
Consumes-nil (Some xs) (Some ys) h = sym h

pub Consumes-then : (a b c : Option (List ℕ)) (xs ys : List ℕ) → Consumes a b xs → Consumes b c ys → Consumes a c (xs ++ ys)
Consumes-then None b c xs ys h k = tt
Consumes-then (Some us) None c xs ys h k = absurd h
Consumes-then (Some us) (Some vs) None xs ys h k = absurd k
Consumes-then (Some us) (Some vs) (Some ws) xs ys h k = h ∙ ap (λ t. xs ++ t) k ∙ sym (append_assoc xs ys ws)

-- a reader of which less is known is at its end as well
pub known_end : (a b c : Option (List ℕ)) (text : List ℕ) → Consumes a b text → OnSome b (IsAtEnd c) → OnSome a (IsAtEnd c)
known_end None b c text h k = tt
known_end (Some xs) None c text h k = absurd h
known_end (Some xs) (Some bs) c text h k = k

pub Appends-nil : (a b : Option (List ℕ)) → Keeps a b → Appends a b []
Appends-nil None b h = tt
Appends-nil (Some xs) None h = absurd h
Appends-nil (Some xs) (Some ys) h = h ∙ sym (append-nil xs)

pub Appends-then : (a b c : Option (List ℕ)) (xs ys : List ℕ) → Appends a b xs → Appends b c ys → Appends a c (xs ++ ys)
Appends-then None b c xs ys h k = tt
Appends-then (Some us) None c xs ys h k = absurd h
Appends-then (Some us) (Some vs) None xs ys h k = absurd k
Appends-then (Some us) (Some vs) (Some ws) xs ys h k = k ∙ ap (λ t. t ++ ys) h ∙ append_assoc us xs ys

pub Appends-kept : (a b c : Option (List ℕ)) (xs : List ℕ) → Appends a b xs → Keeps b c → Appends a c xs
Appends-kept None b c xs h k = tt
Appends-kept (Some us) None c xs h k = absurd h
Appends-kept (Some us) (Some vs) None xs h k = absurd k
Appends-kept (Some us) (Some vs) (Some ws) xs h k = k ∙ h
