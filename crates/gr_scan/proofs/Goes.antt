-- What a scan has done, and what is left.
use Rattle.std.proofs.Common.{◌≡◌, ℕ, ◌<◌, ◌+◌, Bool, false, List, [], ◌∷◌, ◌++◌, length, length-take, take, drop, refl, ap, sym, ◌∙◌, subst, arith, append_assoc, append-nil, true≢false}
use Rattle.std.specs.Prelude.{Option, Some, None, Ok, Err, ◌==◌}
use Rattle.std.proofs.lemmas.Option.{same_Some}
use Rattle.gr_scan.specs.declared.token.Token.{Token}
use Rattle.gr_scan.specs.declared.piece.Piece.{Piece}
use Rattle.gr_scan.specs.declared.scan.ScanError.{ScanError}
use Rattle.gr_scan.specs.declared.scan.ScanError.TheVariants as errors
use Rattle.gr_scan.specs.Tokens.{Tok, token_of, tokens_of}
use Rattle.gr_scan.specs.Pieces.{IsPiece, NoPiece, Cut, end, piece}
use Rattle.gr_scan.specs.Scan.{Item, LineEnd, It, items_of, line_after, both_items, all_items, ends, semicolon, with_semicolons, mark_size, IsScan, HasNoTokens}
use Rattle.gr_scan.specs.Scanning.{emitted, wanted_after, Tells, Puts}
use Rattle.gr_scan.proofs.Classes.{spells_length}
use Rattle.gr_scan.proofs.Unique.{one_piece}

pub tokens_of_push : (xs : List Token) (x : Token) → tokens_of (xs ++ (x ∷ [])) ≡ tokens_of xs ++ (token_of x ∷ [])
tokens_of_push [] x = refl
tokens_of_push (y ∷ xs) x = ap (λ r. token_of y ∷ r) (tokens_of_push xs x)

abbrev pub Pieces : Type 0
Pieces = List (Piece × List ℕ)

-- a cut begins with the piece that is there
cut_first : {text : List ℕ} {ps : Pieces} {p : Piece} {n : ℕ} → IsPiece p n text → 0 < length text → Cut ps text → (qs : Pieces) × (ps ≡ (p, take n text) ∷ qs) × Cut qs (drop n text)
cut_first a pos end = absurd (omega arith)
cut_first {text} {p = p} {n = n} a pos (piece {p = q} {n = m} {ps = qs} b c) =
    let w = one_piece text p q n m a b in
    (qs, rw (w.0, w.1) refl, subst (λ k. Cut qs (drop k text)) (sym w.1) c)

semicolons_append : (wanted : Bool) (is js : List Item) → with_semicolons wanted (is ++ js) ≡ emitted wanted is ++ with_semicolons (wanted_after wanted is) js
semicolons_append wanted [] js = refl
semicolons_append wanted (LineEnd at line ∷ is) js = ap (λ r. semicolon wanted at line ++ r) (semicolons_append false is js) ∙ sym (append_assoc (semicolon wanted at line) (emitted false is) (with_semicolons (wanted_after false is) js))
semicolons_append wanted (It t ∷ is) js = ap (λ r. t ∷ r) (semicolons_append (ends t) is js)

-- the tokens so far, whether the line so far wants a semicolon, the place, and the rest of the text
pub record Goes (text : List ℕ) (done : List Tok) (wanted : Bool) (start line : ℕ) (rest : List ℕ) : Type 0 where
  pub to : (ps : Pieces) (is : List Item) → Cut ps rest → all_items start line ps ≡ Some is → IsScan text (done ++ with_semicolons wanted is)
  pub from : (ts : List Tok) → IsScan text ts → (ps : Pieces) × (is : List Item) × Cut ps rest × (all_items start line ps ≡ Some is) × (ts ≡ done ++ with_semicolons wanted is)

both_some : (a b : Option (List Item)) (is js : List Item) → a ≡ Some is → b ≡ Some js → both_items a b ≡ Some (is ++ js)
both_some a b is js e f = rw (e, f) refl

both_parts : (b : Option (List Item)) (is ks : List Item) → both_items (Some is) b ≡ Some ks → (js : List Item) × (b ≡ Some js) × (ks ≡ is ++ js)
both_parts None is ks e = absurd (cc)
both_parts (Some js) is ks e = (js, refl, sym (same_Some (is ++ js) ks e))

rejoined : (done : List Tok) (wanted : Bool) (is js : List Item) → done ++ with_semicolons wanted (is ++ js) ≡ (done ++ emitted wanted is) ++ with_semicolons (wanted_after wanted is) js
rejoined done wanted is js = ap (λ r. done ++ r) (semicolons_append wanted is js) ∙ sym (append_assoc done (emitted wanted is) (with_semicolons (wanted_after wanted is) js))

bad_items : (a b : Option (List Item)) (ks : List Item) → a ≡ None → both_items a b ≡ Some ks → ⊥
bad_items None b ks e q = cc
bad_items (Some a) b ks e q = cc

no_cut : {rest : List ℕ} {ps : Pieces} → 0 < length rest → NoPiece rest → Cut ps rest → ⊥
no_cut pos none end = omega arith
no_cut pos none (piece {p = q} {n = m} a c) = none q m a.fits a.spelled

module _ (text : List ℕ) (done : List Tok) (wanted : Bool) (start line : ℕ) (rest : List ℕ) where
  back : (p : Piece) (n : ℕ) (is : List Item) → 0 < length rest → IsPiece p n rest → items_of p (take n rest) start line ≡ Some is → (ts : List Tok) → ((ps : Pieces) × (ks : List Item) × Cut ps rest × (all_items start line ps ≡ Some ks) × (ts ≡ done ++ with_semicolons wanted ks)) → (ps : Pieces) × (js : List Item) × Cut ps (drop n rest) × (all_items (start + length (take n rest)) (line_after p (take n rest) line) ps ≡ Some js) × (ts ≡ (done ++ emitted wanted is) ++ with_semicolons (wanted_after wanted is) js)
  back p n is pos a e ts w =
      let f = cut_first a pos w.2 in
      let others = all_items (start + length (take n rest)) (line_after p (take n rest) line) f.0 in
      let q : both_items (Some is) others ≡ Some w.1 = ap (λ o. both_items o others) (sym e) ∙ sym (ap (all_items start line) f.1) ∙ w.3 in
      let b = both_parts others is w.1 q in
      (f.0, b.0, f.2, b.1, w.4 ∙ ap (λ r. done ++ with_semicolons wanted r) b.2 ∙ rejoined done wanted is b.0)

  goes_on : (p : Piece) (n : ℕ) (is : List Item) → Goes text done wanted start line rest → 0 < length rest → IsPiece p n rest → items_of p (take n rest) start line ≡ Some is → Goes text (done ++ emitted wanted is) (wanted_after wanted is) (start + length (take n rest)) (line_after p (take n rest) line) (drop n rest)
  goes_on p n is g pos a e = record {
    to = λ ps js c q. subst (λ r. IsScan text r) (rejoined done wanted is js) (g.to ((p, take n rest) ∷ ps) (is ++ js) (piece a c) (both_some (items_of p (take n rest) start line) (all_items (start + length (take n rest)) (line_after p (take n rest) line) ps) is js e q));
    from = λ ts s. back p n is pos a e ts (g.from ts s);
  }

  goes_none : Goes text done wanted start line rest → 0 < length rest → NoPiece rest → (ts : List Tok) → IsScan text ts → ⊥
  goes_none g pos none ts s = let w = g.from ts s in no_cut pos none w.2

  goes_bad : (p : Piece) (n : ℕ) → Goes text done wanted start line rest → 0 < length rest → IsPiece p n rest → items_of p (take n rest) start line ≡ None → (ts : List Tok) → IsScan text ts → ⊥
  goes_bad p n g pos a e ts s =
      let w = g.from ts s in
      let f = cut_first a pos w.2 in
      bad_items (items_of p (take n rest) start line) (all_items (start + length (take n rest)) (line_after p (take n rest) line) f.0) w.1 e (sym (ap (all_items start line) f.1) ∙ w.3)

  puts_goes : (new : List Tok) (b : Bool) (p : Piece) (n : ℕ) (o : Option (List Item)) → Goes text done wanted start line rest → 0 < length rest → IsPiece p n rest → items_of p (take n rest) start line ≡ o → Puts (Ok b) wanted o done new → Goes text new b (start + length (take n rest)) (line_after p (take n rest) line) (drop n rest)
  puts_goes new b p n (Some is) g pos a e q = rw (q.0, q.1) (goes_on p n is g pos a e)
  puts_goes new b p n None g pos a e q = absurd q

  puts_err : (new : List Tok) (p : Piece) (n : ℕ) (f : ScanError) → Goes text done wanted start line rest → 0 < length rest → IsPiece p n rest → Puts (Err f) wanted (items_of p (take n rest) start line) done new → HasNoTokens f text
  puts_err new p n errors.Memory g pos a q = tt
  puts_err new p n (errors.Strange at) g pos a q = goes_bad p n g pos a q
  puts_err new p n (errors.Malformed at) g pos a q = goes_bad p n g pos a q
  puts_err new p n (errors.TooGreat at) g pos a q = goes_bad p n g pos a q
  puts_err new p n (errors.MalformedText at) g pos a q = goes_bad p n g pos a q
  puts_err new p n (errors.Unclosed at) g pos a q = goes_bad p n g pos a q
  puts_err new p n (errors.LeftOut at) g pos a q = goes_bad p n g pos a q
  puts_err new p n errors.TooLong g pos a q = absurd q

  pub stray : (f : ScanError) → Goes text done wanted start line rest → 0 < length rest → Tells f (NoPiece rest) → HasNoTokens f text
  stray errors.Memory g pos a = tt
  stray (errors.Strange at) g pos a = goes_none g pos a
  stray (errors.Malformed at) g pos a = goes_none g pos a
  stray (errors.TooGreat at) g pos a = goes_none g pos a
  stray (errors.MalformedText at) g pos a = goes_none g pos a
  stray (errors.Unclosed at) g pos a = goes_none g pos a
  stray (errors.LeftOut at) g pos a = goes_none g pos a
  stray errors.TooLong g pos a = absurd a

pub piece_fills : {text : List ℕ} {p : Piece} {n : ℕ} → IsPiece p n text → (0 < n) × (0 < length text)
piece_fills {text} {p} {n} a =
    let pos = spells_length p (take n text) a.spelled in
    (omega (arith, length-take n text), omega (arith, length-take n text))

-- one turn of the loop
pub turn : (text : List ℕ) (done new : List Tok) (wanted b : Bool) (start line next : ℕ) (rest front others : List ℕ) (p : Piece) (n : ℕ) → Goes text done wanted start line rest → IsPiece p n rest → front ≡ take n rest → others ≡ drop n rest → next ≡ line_after p front line → Puts (Ok b) wanted (items_of p front start line) done new → Goes text new b (start + n) next others
turn text done new wanted b start line next rest front others p n g a f o l q =
    let size : length (take n rest) ≡ n = omega (arith, length-take n rest, a.fits) in
    let goes = puts_goes text done wanted start line rest new b p n (items_of p front start line) g (piece_fills a).1 a (ap (λ s. items_of p s start line) (sym f)) q in
    rw (o, l ∙ ap (λ s. line_after p s line) f) (subst (λ k. Goes text new b (start + k) (line_after p (take n rest) line) (drop n rest)) size goes)

pub fault : (text : List ℕ) (done new : List Tok) (wanted : Bool) (start line : ℕ) (rest front : List ℕ) (p : Piece) (n : ℕ) (f : ScanError) → Goes text done wanted start line rest → IsPiece p n rest → front ≡ take n rest → Puts (Err f) wanted (items_of p front start line) done new → HasNoTokens f text
fault text done new wanted start line rest front p n f g a e q =
    puts_err text done wanted start line rest new p n f g (piece_fills a).1 a (subst (λ s. Puts (Err f) wanted (items_of p s start line) done new) e q)

pub goes_end : (text : List ℕ) (done : List Tok) (wanted : Bool) (start line : ℕ) (rest : List ℕ) → Goes text done wanted start line rest → length rest ≡ 0 → IsScan text (done ++ semicolon wanted start line)
goes_end text done wanted start line [] g e = subst (λ r. IsScan text (done ++ r)) (append-nil (semicolon wanted start line)) (g.to [] (LineEnd start line ∷ []) end refl)
goes_end text done wanted start line (x ∷ rest) g e = absurd (omega arith)

empty_cut : {text : List ℕ} {qs : Pieces} → Cut qs text → text ≡ [] → [] ≡ qs
empty_cut end e = refl
empty_cut (piece a c) e = absurd (omega (arith, (piece_fills a).1, ap length e))

-- a text is cut in one way
cut_unique : {text : List ℕ} {ps : Pieces} → Cut ps text → {qs : Pieces} → Cut qs text → ps ≡ qs
cut_unique end c = empty_cut c refl
cut_unique (piece {p = p} {n = n} {text = text} a c) d =
    let f = cut_first a (piece_fills a).1 d in
    ap (λ r. (p, take n text) ∷ r) (cut_unique c f.2) ∙ sym f.1

pub one_list : (text : List ℕ) (ts us : List Tok) → IsScan text ts → IsScan text us → ts ≡ us
one_list text ts us a b =
    let p : a.pieces ≡ b.pieces = cut_unique a.cut b.cut in
    let e : a.items ≡ b.items = same_Some _ _ (sym a.are ∙ ap (all_items (mark_size text) 1) p ∙ b.are) in
    a.tokens ∙ ap (with_semicolons false) e ∙ sym b.tokens

pub filled : (text : List ℕ) → false ≡ (length text == 0) → 0 < length text
filled [] e = absurd (true≢false (sym e))
filled (x ∷ xs) e = omega arith

pub tells_next : (P Q : Type 0) (f : ScanError) → (P → Q) → Tells f P → Tells f Q
tells_next P Q errors.Memory next h = absurd h
tells_next P Q errors.TooLong next h = absurd h
tells_next P Q (errors.Strange at) next h = next h
tells_next P Q (errors.Malformed at) next h = next h
tells_next P Q (errors.TooGreat at) next h = next h
tells_next P Q (errors.MalformedText at) next h = next h
tells_next P Q (errors.Unclosed at) next h = next h
tells_next P Q (errors.LeftOut at) next h = next h
