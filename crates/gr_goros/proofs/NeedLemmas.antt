-- The clauses of a select, one after the other.
use Rattle.std.proofs.Common.{◌≡◌, ℕ, zero, suc, List, [], ◌∷◌, ◌++◌, ◌+◌, ◌<◌, ◌≤◌, length, drop, refl, sym, ap, ◌∙◌, arith, append-nil, get_or, subst}
use Rattle.gr_rules.specs.Outcomes.{Outcome, gives, faults, wrong, ◌>>=◌}
use Rattle.gr_rules.specs.Evaluation.{Variables}
use Rattle.gr_rules.specs.Deeds.{Communication}
use Rattle.gr_code.specs.Instructions.{Arm, DefaultArm, SendArm, ReceiveArm, clauses_of}
use Rattle.gr_code.specs.CodeViews.{arm_of, arms_of}
use Rattle.gr_code.specs.declared.code.Arm as code_arm
use Rattle.gr_eval.specs.Stops.{Stops}
use Rattle.gr_eval.specs.declared.stop.Stop.{Stop}
use Rattle.gr_eval.specs.declared.stop.Stop.TheVariants as stops
use Rattle.gr_goros.specs.Needs.{clause_by, one_channel, AllCanSend, CanSend}
use Rattle.gr_goros.specs.Views.{communication_of, communications_of}
use Rattle.gr_goros.specs.declared.needs.Clause.{Clause}

assoc : {A B C : Type 0} → (o : Outcome A) (k : A → Outcome B) (g : B → Outcome C) → (o >>= λ x. k x >>= g) ≡ ((o >>= k) >>= g)
assoc (gives x) k g = refl
assoc (faults e) k g = refl
assoc wrong k g = refl

-- the first clause, and then the others
pub clauses_step : (cells : Variables) (a : Arm) (arms : List Arm)
    → clauses_of cells (a ∷ arms) ≡ (clause_by cells a >>= λ c. clauses_of cells arms >>= λ cs. gives (c ∷ cs))
clauses_step cells (DefaultArm on) arms = refl
clauses_step cells (SendArm channel value on) arms = assoc (one_channel cells channel) _ _
clauses_step cells (ReceiveArm channel initial into on) arms = assoc (one_channel cells channel) _ _

-- after some clauses of a select
pub record Choosing (cells : Variables) (arms : List code_arm.Arm) (whole : Outcome (List Communication)) (i : ℕ) (done : List Clause) : Type 0 where
  pub is : whole ≡ (clauses_of cells (arms_of (drop i arms)) >>= λ cs. gives (communications_of done ++ cs))
  pub sends : AllCanSend cells (arms_of (drop i arms))

same : {A : Type 0} → (o : Outcome A) → o ≡ (o >>= λ x. gives x)
same (gives x) = refl
same (faults e) = refl
same wrong = refl

pub begins : (cells : Variables) (arms : List code_arm.Arm) → AllCanSend cells (arms_of arms) → Choosing cells arms (clauses_of cells (arms_of arms)) 0 []
begins cells arms h = record { is = same (clauses_of cells (arms_of arms)); sends = h }

arms_here : (arms : List code_arm.Arm) (i : ℕ) (a : code_arm.Arm) → i < length arms → a ≡ get_or arms i a
    → arms_of (drop i arms) ≡ arm_of a ∷ arms_of (drop (i + 1) arms)
arms_here [] i a h e = absurd (omega (arith, h))
arms_here (x ∷ arms) zero a h e = ap (λ a. arm_of a ∷ arms_of arms) (sym e)
arms_here (x ∷ arms) (suc i) a h e =
    let one : suc i + 1 ≡ suc (i + 1) = omega arith in rw one (arms_here arms i a (omega (arith, h)) e)

-- what is left, from the next clause on
next_is : (cells : Variables) (arms : List code_arm.Arm) (whole : Outcome (List Communication)) (i : ℕ) (done : List Clause) (a : code_arm.Arm)
    → Choosing cells arms whole i done → i < length arms → a ≡ get_or arms i a
    → whole ≡ ((clause_by cells (arm_of a) >>= λ c. clauses_of cells (arms_of (drop (i + 1) arms)) >>= λ cs. gives (c ∷ cs))
    >>= λ cs. gives (communications_of done ++ cs))
next_is cells arms whole i done a s h e =
    s.is ∙ ap (λ as'. clauses_of cells as' >>= λ cs. gives (communications_of done ++ cs)) (arms_here arms i a h e)
    ∙ ap (λ o. o >>= λ cs. gives (communications_of done ++ cs)) (clauses_step cells (arm_of a) (arms_of (drop (i + 1) arms)))

pub right_here : (cells : Variables) (arms : List code_arm.Arm) (whole : Outcome (List Communication)) (i : ℕ) (done : List Clause) (a : code_arm.Arm)
    → Choosing cells arms whole i done → i < length arms → a ≡ get_or arms i a → ¬ (whole ≡ wrong) → ¬ (clause_by cells (arm_of a) ≡ wrong)
right_here cells arms whole i done a s h e right w =
    right (next_is cells arms whole i done a s h e
    ∙ ap (λ o. (o >>= λ c. clauses_of cells (arms_of (drop (i + 1) arms)) >>= λ cs. gives (c ∷ cs)) >>= λ cs. gives (communications_of done ++ cs)) w)

pub sends_here : (cells : Variables) (arms : List code_arm.Arm) (whole : Outcome (List Communication)) (i : ℕ) (done : List Clause) (a : code_arm.Arm)
    → Choosing cells arms whole i done → i < length arms → a ≡ get_or arms i a → CanSend cells (arm_of a)
sends_here cells arms whole i done a s h e =
    let all : AllCanSend cells (arm_of a ∷ arms_of (drop (i + 1) arms)) = subst (AllCanSend cells) (arms_here arms i a h e) s.sends in all.0

communications_last : (cs : List Clause) (c : Clause) (ds : List Communication)
    → communications_of cs ++ communication_of c ∷ ds ≡ communications_of (cs ++ c ∷ []) ++ ds
communications_last [] c ds = refl
communications_last (d ∷ cs) c ds = ap (λ r. communication_of d ∷ r) (communications_last cs c ds)

added : (o : Outcome (List Communication)) (done : List Clause) (c : Clause)
    → ((o >>= λ cs. gives (communication_of c ∷ cs)) >>= λ cs. gives (communications_of done ++ cs))
    ≡ (o >>= λ cs. gives (communications_of (done ++ c ∷ []) ++ cs))
added (gives cs) done c = ap gives (communications_last done c cs)
added (faults e) done c = refl
added wrong done c = refl

pub goes_on : (cells : Variables) (arms : List code_arm.Arm) (whole : Outcome (List Communication))
    → (i : ℕ) (done new : List Clause) (a : code_arm.Arm) (c : Clause)
    → Choosing cells arms whole i done → i < length arms → a ≡ get_or arms i a → clause_by cells (arm_of a) ≡ gives (communication_of c)
    → new ≡ done ++ c ∷ [] → Choosing cells arms whole (i + 1) new
goes_on cells arms whole i done new a c s h e g n =
    let rest = clauses_of cells (arms_of (drop (i + 1) arms)) in
    let all : AllCanSend cells (arm_of a ∷ arms_of (drop (i + 1) arms)) = subst (AllCanSend cells) (arms_here arms i a h e) s.sends in
    record {
      is = next_is cells arms whole i done a s h e
          ∙ ap (λ o. (o >>= λ c. rest >>= λ cs. gives (c ∷ cs)) >>= λ cs. gives (communications_of done ++ cs)) g
          ∙ added rest done c
          ∙ ap (λ new. rest >>= λ cs. gives (communications_of new ++ cs)) (sym n);
      sends = all.1;
    }

pub stops_here : (cells : Variables) (arms : List code_arm.Arm) (whole : Outcome (List Communication))
    → (i : ℕ) (done : List Clause) (a : code_arm.Arm) (e : Stop)
    → Choosing cells arms whole i done → i < length arms → a ≡ get_or arms i a → Stops e (clause_by cells (arm_of a)) → Stops e whole
stops_here cells arms whole i done a (stops.Fault f) s h e w =
    next_is cells arms whole i done a s h e
    ∙ ap (λ o. (o >>= λ c. clauses_of cells (arms_of (drop (i + 1) arms)) >>= λ cs. gives (c ∷ cs)) >>= λ cs. gives (communications_of done ++ cs)) w
stops_here cells arms whole i done a stops.NoMemory s h e w = tt

drop_past : (arms : List code_arm.Arm) (i : ℕ) → length arms ≤ i → drop i arms ≡ []
drop_past [] zero h = refl
drop_past [] (suc i) h = refl
drop_past (a ∷ arms) zero h = absurd (omega (arith, h))
drop_past (a ∷ arms) (suc i) h = drop_past arms i (omega (arith, h))

pub ends : (cells : Variables) (arms : List code_arm.Arm) (whole : Outcome (List Communication)) (i : ℕ) (done : List Clause)
    → Choosing cells arms whole i done → length arms ≤ i → whole ≡ gives (communications_of done)
ends cells arms whole i done s h =
    s.is ∙ ap (λ as'. clauses_of cells (arms_of as') >>= λ cs. gives (communications_of done ++ cs)) (drop_past arms i h)
    ∙ ap gives (append-nil (communications_of done))
