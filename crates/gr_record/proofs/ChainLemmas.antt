-- Records that are kept, one step after the other from the first.
use Rattle.std.proofs.Common.{◌≡◌, suc, List, [], ◌∷◌, ◌++◌, length, refl, sym, ap, subst, append_assoc, append-nil}
use Rattle.gr_program.specs.Programs.{Program}
use Rattle.gr_laws.specs.Reached.{Logged}
use Rattle.gr_refine.specs.Contents.{Contents}
use Rattle.gr_refine.specs.Standing.{ContentsStand}
use Rattle.gr_lower.specs.Lowered.{lowered, meaning}
use Rattle.gr_record.specs.declared.record.Record.{Record}
use Rattle.gr_record.specs.Kept.{Kept, none, one_more, Tells}

-- the first of them leads to where the others begin
abbrev pub Chain : (p : Program) → Contents → List Record → List (Logged p) → Contents → Type 0
Chain p s [] [] t = s ≡ t
Chain p s (r ∷ rs) (l ∷ ls) t = (m : Contents) × Tells p s r l m × Chain p m rs ls t
Chain p s [] (l ∷ ls) t = ⊥
Chain p s (r ∷ rs) [] t = ⊥

-- one more at the end
chain_push : (p : Program) (s m t : Contents) (rs : List Record) (ls : List (Logged p)) (r : Record) (l : Logged p) → Chain p s rs ls m → Tells p m r l t
    → Chain p s (rs ++ r ∷ []) (ls ++ l ∷ []) t
chain_push p s m t [] [] r l chain tells = (t, subst {_, _} (λ x. Tells p x r l t) (sym chain) tells, refl)
chain_push p s m t (q ∷ rs) (k ∷ ls) r l chain tells = (chain.0, chain.1, chain_push p chain.0 m t rs ls r l chain.2 tells)
chain_push p s m t [] (k ∷ ls) r l chain tells = absurd chain
chain_push p s m t (q ∷ rs) [] r l chain tells = absurd chain

pub chain_of : (p : Program) (s : Contents) (rs : List Record) (ls : List (Logged p)) (t : Contents) → Kept p s rs ls t → Chain p s rs ls t
chain_of p s _ _ _ none = refl
chain_of p s _ _ _ (one_more {records} {log} {t} r l u kept tells) = chain_push p s t u records log r l (chain_of p s records log t kept) tells

-- kept records, and a chain of more
pub kept_on : (p : Program) (s m t : Contents) (front back : List Record) (log later : List (Logged p)) → Kept p s front log m → Chain p m back later t
    → Kept p s (front ++ back) (log ++ later) t
kept_on p s m t front [] log [] kept chain =
    subst {_, _} (λ rs. Kept p s rs (log ++ []) t) (sym (append-nil front))
    (subst {_, _} (λ ls. Kept p s front ls t) (sym (append-nil log)) (subst {_, _} (Kept p s front log) chain kept))
kept_on p s m t front (r ∷ back) log (l ∷ later) kept chain =
    subst {_, _} (λ rs. Kept p s rs (log ++ l ∷ later) t) (append_assoc front (r ∷ []) back)
    (subst {_, _} (λ ls. Kept p s ((front ++ r ∷ []) ++ back) ls t) (append_assoc log (l ∷ []) later)
    (kept_on p s chain.0 t (front ++ r ∷ []) back (log ++ l ∷ []) later (one_more r l chain.0 kept chain.1) chain.2))
kept_on p s m t front [] log (l ∷ later) kept chain = absurd chain
kept_on p s m t front (r ∷ back) log [] kept chain = absurd chain

pub kept_of : (p : Program) (s t : Contents) (rs : List Record) (ls : List (Logged p)) → Chain p s rs ls t → Kept p s rs ls t
kept_of p s t rs ls chain = kept_on p s s t [] rs [] ls none chain

-- parts with as many steps as records

pub split : (p : Program) (s t : Contents) (front back : List Record) (log later : List (Logged p)) → length front ≡ length log
    → Chain p s (front ++ back) (log ++ later) t → (m : Contents) × Chain p s front log m × Chain p m back later t
split p s t [] back [] later same chain = (s, refl, chain)
split p s t (r ∷ front) back (l ∷ log) later same chain =
    let rest = split p chain.0 t front back log later (shorter same) chain.2 in
    (rest.0, (chain.0, chain.1, rest.1), rest.2)
  where
    shorter : suc (length front) ≡ suc (length log) → length front ≡ length log
    shorter e = cc
split p s t [] back (l ∷ log) later same chain = absurd (let no : 0 ≡ suc (length log) = same in cc)
split p s t (r ∷ front) back [] later same chain = absurd (let no : suc (length front) ≡ 0 = same in cc)

-- frames stand where they lead
pub chain_stands : (p : Program) (s t : Contents) (rs : List Record) (ls : List (Logged p)) → ContentsStand (meaning p) (lowered p) s → Chain p s rs ls t
    → ContentsStand (meaning p) (lowered p) t
chain_stands p s t [] [] stand chain = subst {_, _} (λ x. ContentsStand (meaning p) (lowered p) x) chain stand
chain_stands p s t (r ∷ rs) (l ∷ ls) stand chain = chain_stands p chain.0 t rs ls chain.1.is.takes.stand chain.2
chain_stands p s t [] (l ∷ ls) stand chain = absurd chain
chain_stands p s t (r ∷ rs) [] stand chain = absurd chain

-- as many steps as records
pub as_many : (p : Program) (s t : Contents) (rs : List Record) (ls : List (Logged p)) → Chain p s rs ls t → length rs ≡ length ls
as_many p s t [] [] chain = refl
as_many p s t (r ∷ rs) (l ∷ ls) chain = ap suc (as_many p chain.0 t rs ls chain.2)
as_many p s t [] (l ∷ ls) chain = absurd chain
as_many p s t (r ∷ rs) [] chain = absurd chain
