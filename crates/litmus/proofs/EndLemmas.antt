-- Two states of a program of three goroutines and one channel are equal where they have the same contents.
use Rattle.std.proofs.Common.{◌≡◌, ℕ, zero, suc, nat_eq, false, List, [], ◌∷◌, Some, arith}
use Rattle.std.proofs.lemmas.Bool.{ne_eqb}
use Rattle.gr_base.specs.declared.names.ChName.{ChName}
use Rattle.gr_rules.specs.States.{State}

-- at `main`, at its first two children, and at all others
by_name : {X : Type 0} (f g : List ℕ → X) → f [] ≡ g [] → ((ns : List ℕ) → f (1 ∷ ns) ≡ g (1 ∷ ns)) → ((ns : List ℕ) → f (2 ∷ ns) ≡ g (2 ∷ ns))
    → ((ns : List ℕ) → f (0 ∷ ns) ≡ g (0 ∷ ns)) → ((n : ℕ) (ns : List ℕ) → nat_eq n 1 ≡ false → nat_eq n 2 ≡ false → f (n ∷ ns) ≡ g (n ∷ ns))
    → (n : List ℕ) → f n ≡ g n
by_name f g m a b z o [] = m
by_name f g m a b z o (zero ∷ ns) = z ns
by_name f g m a b z o (suc zero ∷ ns) = a ns
by_name f g m a b z o (suc (suc zero) ∷ ns) = b ns
by_name f g m a b z o (suc (suc (suc n)) ∷ ns) = o (suc (suc (suc n))) ns (ne_eqb _ 1 (λ h. omega arith)) (ne_eqb _ 2 (λ h. omega arith))

-- at the first channel of `main`, and at all others
by_parts : {X : Type 0} (f g : List ℕ → ℕ → X) → f [] 1 ≡ g [] 1 → f [] 0 ≡ g [] 0 → ((n : ℕ) → nat_eq n 1 ≡ false → f [] n ≡ g [] n)
    → ((m : ℕ) (ms : List ℕ) (n : ℕ) → f (m ∷ ms) n ≡ g (m ∷ ms) n) → (go : List ℕ) (n : ℕ) → f go n ≡ g go n
by_parts f g h z k l [] zero = z
by_parts f g h z k l [] (suc zero) = h
by_parts f g h z k l [] (suc (suc n)) = k (suc (suc n)) (ne_eqb _ 1 (λ h. omega arith))
by_parts f g h z k l (m ∷ ms) n = l m ms n

abbrev pub named : List ℕ → ℕ → ChName
named go n = record { go = go; n = n }

by_channel : {X : Type 0} (f g : ChName → X) → f (named [] 1) ≡ g (named [] 1) → f (named [] 0) ≡ g (named [] 0)
    → ((n : ℕ) → nat_eq n 1 ≡ false → f (named [] n) ≡ g (named [] n))
    → ((m : ℕ) (ms : List ℕ) (n : ℕ) → f (named (m ∷ ms) n) ≡ g (named (m ∷ ms) n)) → (c : ChName) → f c ≡ g c
by_channel f g h z k l c = by_parts (λ go n. f (named go n)) (λ go n. g (named go n)) h z k l c.go c.n

pub one_end : {s t : State} → s.run ≡ t.run
    → s.goroutines [] ≡ t.goroutines [] → ((ns : List ℕ) → s.goroutines (1 ∷ ns) ≡ t.goroutines (1 ∷ ns))
    → ((ns : List ℕ) → s.goroutines (2 ∷ ns) ≡ t.goroutines (2 ∷ ns)) → ((ns : List ℕ) → s.goroutines (0 ∷ ns) ≡ t.goroutines (0 ∷ ns))
    → ((n : ℕ) (ns : List ℕ) → nat_eq n 1 ≡ false → nat_eq n 2 ≡ false → s.goroutines (n ∷ ns) ≡ t.goroutines (n ∷ ns))
    → s.gates (named [] 1) ≡ t.gates (named [] 1) → s.gates (named [] 0) ≡ t.gates (named [] 0)
    → ((n : ℕ) → nat_eq n 1 ≡ false → s.gates (named [] n) ≡ t.gates (named [] n))
    → ((m : ℕ) (ms : List ℕ) (n : ℕ) → s.gates (named (m ∷ ms) n) ≡ t.gates (named (m ∷ ms) n))
    → ((c : ChName) → s.tails c ≡ t.tails c) → ((c : ChName) → s.heads c ≡ t.heads c) → ((c : ChName) (j : ℕ) → s.slots c j ≡ t.slots c j)
    → Some s ≡ Some t
one_end {s} {t} r m a b z o h y k l d e f =
    let g = by_name s.goroutines t.goroutines m a b z o in
    let c = by_channel s.gates t.gates h y k l in
    λ i. Some (record { run = r i; goroutines = λ n. g n i; gates = λ n. c n i; tails = λ n. d n i; heads = λ n. e n i; slots = λ n j. f n j i })
