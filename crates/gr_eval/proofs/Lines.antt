-- One more piece of a line.
use Rattle.std.proofs.Common.{◌≡◌, ◌≢◌, ℕ, List, [], ◌∷◌, ◌++◌, ◌<◌, ◌+◌, length, drop, get_or, refl, sym, ap, ◌∙◌, append_assoc, append-nil}
use Rattle.std.proofs.Common.{inl, inr}
use Rattle.std.proofs.lemmas.List.{drop_more, drop_all}
use Rattle.std.proofs.lemmas.Bool.{cases_lt}
use Rattle.gr_base.specs.Values.{value_text}
use Rattle.gr_base.specs.declared.values.Value.{Value}
use Rattle.gr_code.specs.declared.code.Piece as code
use Rattle.gr_code.specs.CodeViews.{piece_of, pieces_of}
use Rattle.gr_rules.specs.Deeds.{texts, spaced}
use Rattle.gr_rules.specs.Points.{Piece, OfText, OfValue}
use Rattle.gr_rules.specs.Outcomes.{Outcome, gives, faults, wrong, ◌>>=◌}

-- the texts with one space before each but the first, before which is what is given
abbrev pub joined : List ℕ → List (List ℕ) → List ℕ
joined between [] = []
joined between (t ∷ ts) = between ++ (t ++ joined (32 ∷ []) ts)

-- a line of which the text is there, and texts are to come
abbrev pub line_after : List ℕ → List ℕ → Outcome (List (List ℕ)) → Outcome (List ℕ)
line_after text between o = o >>= λ ts. gives (text ++ joined between ts)

joined_is : (ts : List (List ℕ)) → joined [] ts ≡ spaced ts
joined_is [] = refl
joined_is (t ∷ []) = append-nil t
joined_is (t ∷ u ∷ us) = ap (λ s. t ++ (32 ∷ s)) (joined_is (u ∷ us))

pub begun : (o : Outcome (List (List ℕ))) → line_after [] [] o ≡ (o >>= λ ts. gives (spaced ts))
begun (gives ts) = ap gives (joined_is ts)
begun (faults e) = refl
begun wrong = refl

regroup : (text between t rest : List ℕ) → ((text ++ between) ++ t) ++ rest ≡ text ++ (between ++ (t ++ rest))
regroup text between t rest = simp append_assoc

turned : (text between t : List ℕ) (o : Outcome (List (List ℕ)))
    → line_after ((text ++ between) ++ t) (32 ∷ []) o ≡ line_after text between (o >>= λ ts. gives (t ∷ ts))
turned text between t (gives ts) = ap gives (regroup text between t (joined (32 ∷ []) ts))
turned text between t (faults e) = refl
turned text between t wrong = refl

-- the next piece of a list, by its number and its kind
pub record IsNext (ps : List code.Piece) (i : ℕ) (p : code.Piece) (q : Piece) : Type 0 where
  pub within : i < length ps
  pub there : p ≡ get_or ps i p
  pub kind : piece_of p ≡ q

next_is : {ps : List code.Piece} {i : ℕ} {p : code.Piece} {q : Piece} → IsNext ps i p q → pieces_of (drop i ps) ≡ q ∷ pieces_of (drop (i + 1) ps)
next_is {ps} {i} {p} {q} n =
    ap pieces_of (drop_more ps i p n.within ∙ ap (λ r. r ∷ drop (i + 1) ps) (sym n.there)) ∙ ap (λ r. r ∷ pieces_of (drop (i + 1) ps)) n.kind

-- the line, with these pieces and values to come
abbrev pub line_with : List ℕ → List ℕ → List code.Piece → List Value → Outcome (List ℕ)
line_with text between ps vs = line_after text between (texts (pieces_of ps) vs)

pub text_turned : {new bytes : List ℕ} (text between : List ℕ) {ps : List code.Piece} {i : ℕ} {p : code.Piece} (vs : List Value)
    → IsNext ps i p (OfText bytes) → new ≡ (text ++ between) ++ bytes
    → line_with new (32 ∷ []) (drop (i + 1) ps) vs ≡ line_with text between (drop i ps) vs
text_turned {new} {bytes} text between {ps} {i} vs n longer =
    ap (λ s. line_with s (32 ∷ []) (drop (i + 1) ps) vs) longer ∙ turned text between bytes (texts (pieces_of (drop (i + 1) ps)) vs)
    ∙ ap (λ qs. line_after text between (texts qs vs)) (sym (next_is n))

pub value_turned : {new : List ℕ} (text between : List ℕ) {ps : List code.Piece} {i : ℕ} {p : code.Piece} (vs : List Value) (k : ℕ) (v : Value)
    → IsNext ps i p OfValue → k < length vs → v ≡ get_or vs k v → new ≡ (text ++ between) ++ value_text v
    → line_with new (32 ∷ []) (drop (i + 1) ps) (drop (k + 1) vs) ≡ line_with text between (drop i ps) (drop k vs)
value_turned {new} text between {ps} {i} vs k v n within there longer =
    let rest = pieces_of (drop (i + 1) ps) in
    let values : drop k vs ≡ v ∷ drop (k + 1) vs = drop_more vs k v within ∙ ap (λ w. w ∷ drop (k + 1) vs) (sym there) in
    ap (λ s. line_with s (32 ∷ []) (drop (i + 1) ps) (drop (k + 1) vs)) longer ∙ turned text between (value_text v) (texts rest (drop (k + 1) vs))
    ∙ ap (λ ws. line_after text between (texts (OfValue ∷ rest) ws)) (sym values)
    ∙ ap (λ qs. line_after text between (texts qs (drop k vs))) (sym (next_is n))

is_wrong : (o : Outcome (List (List ℕ))) → (o >>= λ ts. gives (spaced ts)) ≡ wrong → o ≡ wrong
is_wrong (gives ts) e = cc
is_wrong (faults f) e = cc
is_wrong wrong e = refl

-- where a value is next to be printed, there is one
pub value_there : (text between : List ℕ) {ps : List code.Piece} {i : ℕ} {p : code.Piece} (vs : List Value) (k : ℕ)
    (whole : Outcome (List (List ℕ))) → IsNext ps i p OfValue
    → line_with text between (drop i ps) (drop k vs) ≡ (whole >>= λ ts. gives (spaced ts)) → whole ≢ wrong
    → k < length vs
value_there text between {ps} {i} vs k whole n done right = elim (cases_lt k (length vs)) [
  | inl l ↦ l
  | inr l ↦ absurd (right (is_wrong whole (
      sym done ∙ ap (λ qs. line_after text between (texts qs (drop k vs))) (next_is n)
      ∙ ap (λ ws. line_after text between (texts (OfValue ∷ pieces_of (drop (i + 1) ps)) ws)) (drop_all k vs l))))
]
