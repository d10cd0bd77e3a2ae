-- Stairs that lead up to a landing, from which one falls to where they begin. One place of them is a trap.
use Rattle.std.proofs.Common.{◌≡◌, ℕ, ◌+◌, Bool, true, false, nat_eq, List, [], ◌∷◌, map, Some, None, Option, refl, sym, ◌∙◌, ap, subst, inl, eq-eqb}
use Rattle.gr_search.specs.System.{System, Laws, Leads}
use Rattle.test_parts.specs.declared.stairs.Move.{Move}
use Rattle.test_parts.specs.declared.stairs.Move.TheVariants.{Up, Fall}
use Rattle.test_parts.specs.declared.stairs.Climb.{Climb}
use Rattle.test_parts.specs.declared.stairs.Stairs.{Stairs}

-- the places of the landing and of the trap
pub record Plan : Type 0 where
  pub landing : ℕ
  pub trap : ℕ

-- from the landing one falls, and from everywhere else one goes up
abbrev pub next_place : Bool → ℕ → Move → Option ℕ
next_place true place Up = None
next_place true place Fall = Some 0
next_place false place Up = Some (place + 1)
next_place false place Fall = None

-- going up may be taken alone where one is neither on the landing nor in the trap
abbrev pub goes_alone : Bool → Bool → Move → Bool
goes_alone false false Up = true
goes_alone false false Fall = false
goes_alone false true Up = false
goes_alone false true Fall = false
goes_alone true trapped Up = false
goes_alone true trapped Fall = false

abbrev pub stairs : Plan → System ℕ Move ℕ
stairs p = record {
  start = 0;
  next = λ place e. next_place (nat_eq place p.landing) place e;
  bad = λ place. place ≡ p.trap;
  alone = λ place e. goes_alone (nat_eq place p.landing) (nat_eq place p.trap) e;
  key = λ place. place;
}

-- each place is that to which the move before it led
abbrev pub IsWay : Plan → List Climb → ℕ → Type 0
IsWay p [] place = place ≡ 0
IsWay p (c ∷ cs) place = ((stairs p).next c.from c.by ≡ Some place) × IsWay p cs c.from

abbrev pub plan_of : Stairs → Plan
plan_of s = record { landing = s.landing; trap = s.trap }

abbrev pub moves_of : Stairs → List Move
moves_of s = map (λ c. c.by) s.way.items

abbrev pub Stands : Stairs → Type 0
Stands s = IsWay (plan_of s) s.way.items s.place

-- both moves are tried in each place
abbrev pub AreOffered : List Move → Type 0
AreOffered events = events ≡ Up ∷ Fall ∷ []

-- a key is the place
abbrev pub IsKey : List ℕ → ℕ → Type 0
IsKey key place = key ≡ place ∷ []

no_truth : false ≡ true → ⊥
no_truth e = cc

none_not : {A : Type 0} (a : A) → None ≡ Some a → ⊥
none_not a e = cc

same_head : (a b : ℕ) → a ∷ [] ≡ b ∷ [] → a ≡ b
same_head a b e = cc

only_up : (landed trapped : Bool) (a : Move) → goes_alone landed trapped a ≡ true → (landed ≡ false) × (trapped ≡ false) × (a ≡ Up)
only_up false false Up h = (refl, refl, refl)
only_up false false Fall h = absurd (no_truth h)
only_up false true Up h = absurd (no_truth h)
only_up false true Fall h = absurd (no_truth h)
only_up true trapped Up h = absurd (no_truth h)
only_up true trapped Fall h = absurd (no_truth h)

goes_up : (landed : Bool) (place : ℕ) (a : Move) → landed ≡ false → a ≡ Up → next_place landed place a ≡ Some (place + 1)
goes_up landed place a h g = ap (λ b. next_place b place a) h ∙ ap (next_place false place) g

nothing_else : (landed : Bool) (place there : ℕ) (a e : Move) → landed ≡ false → a ≡ Up → next_place landed place e ≡ Some there → e ≡ a
nothing_else landed place there a Up h g k = sym g
nothing_else landed place there a Fall h g k = absurd (none_not there (sym (ap (λ b. next_place b place Fall) h) ∙ k))

pub laws_of_stairs : (p : Plan) → Laws (stairs p)
laws_of_stairs p = record {
  alone_goes = λ s a r h. let up = only_up (nat_eq s p.landing) (nat_eq s p.trap) a h in (s + 1, goes_up (nat_eq s p.landing) s a up.0 up.2);
  alone_fine = λ s a r h b. let up = only_up (nat_eq s p.landing) (nat_eq s p.trap) a h in no_truth (sym up.1 ∙ eq-eqb s p.trap b);
  alone_apart = λ s t u a e r h g k. let up = only_up (nat_eq s p.landing) (nat_eq s p.trap) a h in inl (nothing_else (nat_eq s p.landing) s u a e up.0 up.2 k);
  like_next = λ s r t e i j k h. (t, subst (λ x. (stairs p).next x e ≡ Some t) k h, refl);
  like_bad = λ s r i j k b. subst (λ x. x ≡ p.trap) k b;
}

way_leads : (p : Plan) (cs : List Climb) (place : ℕ) → IsWay p cs place → Leads (stairs p) (map (λ c. c.by) cs) place
way_leads p [] place h = h
way_leads p (c ∷ cs) place h = (c.from, way_leads p cs c.from h.1, h.0)

pub stairs_lead : (s : Stairs) → Stands s → Leads (stairs (plan_of s)) (moves_of s) s.place
stairs_lead s h = way_leads (plan_of s) s.way.items s.place h

pub one_place : (key : List ℕ) (a b : ℕ) → IsKey key a → IsKey key b → a ≡ b
one_place key a b h g = same_head a b (sym h ∙ g)
