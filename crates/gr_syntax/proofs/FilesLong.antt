-- A file that is refused as too high is long.
use Rattle.std.proofs.Common.{◌≡◌, ℕ, zero, suc, ◌+◌, ◌≤◌, true, List, [], ◌∷◌, ◌++◌, length, refl, ap, sym, subst, arith}
use Rattle.std.specs.Prelude.{Ok, Err}
use Rattle.gr_scan.specs.declared.token.Mark.TheVariants as marks
use Rattle.gr_scan.specs.Tokens.{Tok}
use Rattle.gr_tree.specs.Files.{GroupOf, Function}
use Rattle.gr_syntax.specs.Grammar.{after_mark}
use Rattle.gr_syntax.specs.Reading.{High, Found, Reads, ◌>>=◌, Turn, Go, turned, turns, loop, name_at, need, names_at, type_at, ends_at}
use Rattle.gr_syntax.specs.StatementReading.{statement_at, block_at}
use Rattle.gr_syntax.specs.FileReading.{groups_after, groups_turn, groups_at, parameters_at, result_at, function_at, functions_more, functions_turn, functions_at, file_at}
use Rattle.gr_syntax.proofs.Cases.{ok_inj, on_ok, on_high, stop_low, name_low, need_low, on_look, on_test, after_is, name_is, need_is}
use Rattle.gr_syntax.proofs.Groups.{Groups, parameters_sound, parameters_shrunk, result_sound, result_shrunk}
use Rattle.gr_syntax.proofs.Functions.{function_sound, function_shrunk}
use Rattle.gr_syntax.proofs.Names.{names_sound, names_shrunk, names_low}
use Rattle.gr_syntax.proofs.WrittenTypes.{type_sound, type_shrinks, type_high}
use Rattle.gr_syntax.proofs.SoundStatements.{statement_sound}
use Rattle.gr_syntax.proofs.StatementsLong.{statement_high, block_high}

groups_high : (h n m : ℕ) (s : Found Groups) → length s.2 ≤ m → turns (groups_turn h) n s ≡ Err High → h ≤ m
unfolding groups_turn
groups_high h zero m s le q = absurd (cc)
groups_high h (suc n) m s le q =
    let next : Turn (Found Groups) → Reads Groups = turned (turns (groups_turn h) n) in
    on_high (names_at s.2 >>= λ xs. type_at h xs.2 >>= λ t. groups_after (s.0 ++ (GroupOf xs.0 t.0 ∷ [])) t.2) next q
    (λ q. on_high (names_at s.2) _ q (λ q. names_low s.2 q) (λ xs ex q.
    let shorter = names_shrunk (names_sound s.2 xs ex) in
    on_high (type_at h xs.2) _ q
    (λ q. omega (arith, le, shorter, type_high h xs.2 q))
    (λ t et q. on_look (after_mark marks.Comma t.2) _ _ (Err High) q
    (λ rest m q. on_test (ends_at true rest) _ _ (Err High) q (λ b q. absurd (cc)) (λ b q. absurd (cc)))
    (λ m q. absurd (cc)))))
    (λ v ev q. on_ok (names_at s.2) (λ xs. type_at h xs.2 >>= λ t. groups_after (s.0 ++ (GroupOf xs.0 t.0 ∷ [])) t.2) v ev (λ xs ex ev.
    on_ok (type_at h xs.2) (λ t. groups_after (s.0 ++ (GroupOf xs.0 t.0 ∷ [])) t.2) v ev (λ t et ev.
    let shorter = names_shrunk (names_sound s.2 xs ex) in
    on_look (after_mark marks.Comma t.2) _ _ (Ok v) ev
    (λ rest c ev. on_test (ends_at true rest) _ _ (Ok v) ev
    (λ b ev. stop_low next (s.0 ++ (GroupOf xs.0 t.0 ∷ []), 0, rest) v (ok_inj ev) (λ s. refl) q)
    (λ b ev. let fewer : length rest ≤ m = omega (arith, le, shorter, type_shrinks (type_sound h xs.2 t et).tree, ap length (after_is marks.Comma t.2 rest c).is) in
    groups_high h n m (s.0 ++ (GroupOf xs.0 t.0 ∷ []), 0, rest) fewer (subst (λ d. next d ≡ Err High) (sym (ok_inj ev)) q)))
    (λ c ev. stop_low next (s.0 ++ (GroupOf xs.0 t.0 ∷ []), 0, t.2) v (ok_inj ev) (λ s. refl) q))))

parameters_high : (h : ℕ) (ts : List Tok) → parameters_at h ts ≡ Err High → h ≤ length ts
unfolding parameters_at groups_at loop
parameters_high h ts q =
    on_high (need marks.LeftParen ts) _ q (λ q. need_low marks.LeftParen ts q) (λ a ea q.
    let opens = ap length (need_is marks.LeftParen ts a ea) in
    on_look (after_mark marks.RightParen a.1) _ _ (Err High) q
    (λ rest m q. absurd (cc))
    (λ m q. on_high (groups_at h a.1) _ q
    (λ q. omega (arith, opens, groups_high h (suc (length a.1)) (length a.1) ([], 0, a.1) (omega arith) q))
    (λ gs eg q. on_high (need marks.RightParen gs.2) _ q (λ q. need_low marks.RightParen gs.2 q) (λ b eb q. absurd (cc)))))

result_high : (h : ℕ) (ts : List Tok) → result_at h ts ≡ Err High → h ≤ length ts
unfolding result_at
result_high h ts q =
    on_look (after_mark marks.LeftBrace ts) _ _ (Err High) q
    (λ rest m q. absurd (cc))
    (λ m q. on_high (type_at h ts) _ q (λ q. type_high h ts q) (λ t et q. absurd (cc)))

function_high : (h : ℕ) (ts : List Tok) → function_at h ts ≡ Err High → h ≤ length ts
unfolding function_at
function_high h ts q =
    on_high (need marks.Func ts) _ q (λ q. need_low marks.Func ts q) (λ a ea q.
    on_high (name_at a.1) _ q (λ q. name_low a.1 q) (λ f ef q.
    let start : length f.1 ≤ length ts = omega (arith, ap length (need_is marks.Func ts a ea), ap length (name_is a.1 f ef).1) in
    on_high (parameters_at h f.1) _ q (λ q. omega (arith, start, parameters_high h f.1 q)) (λ gs eg q.
    let past : length gs.2 ≤ length ts = omega (arith, start, parameters_shrunk (parameters_sound h f.1 gs eg).spelled) in
    on_high (result_at h gs.2) _ q (λ q. omega (arith, past, result_high h gs.2 q)) (λ t et q.
    on_high (block_at (statement_at h) t.2) _ q
    (λ q. omega (arith, past, result_shrunk (result_sound h gs.2 t et).spelled, block_high h (statement_at h) (statement_sound h) (statement_high h) t.2 q))
    (λ b eb q. absurd (cc))))))

functions_high : (h n m : ℕ) (s : Found (List Function)) → length s.2 ≤ m → turns (functions_turn h) n s ≡ Err High → h ≤ m
unfolding functions_turn functions_more
functions_high h zero m s le q = absurd (cc)
functions_high h (suc n) m (fs, k, []) le q = absurd (cc)
functions_high h (suc n) m (fs, k, t ∷ ts) le q =
    let next : Turn (Found (List Function)) → Reads (List Function) = turned (turns (functions_turn h) n) in
    on_high (function_at h (t ∷ ts) >>= λ f. need marks.Semicolon f.2 >>= λ r. Ok (Go (fs ++ (f.0 ∷ []), 0, r.1))) next q
    (λ q. on_high (function_at h (t ∷ ts)) _ q (λ q. omega (arith, le, function_high h (t ∷ ts) q)) (λ f ef q.
    on_high (need marks.Semicolon f.2) _ q (λ q. need_low marks.Semicolon f.2 q) (λ r er q. absurd (cc))))
    (λ v ev q. on_ok (function_at h (t ∷ ts)) _ v ev (λ f ef ev. on_ok (need marks.Semicolon f.2) _ v ev (λ r er ev.
    let fewer : length r.1 ≤ m = omega (arith, le, function_shrunk (function_sound h (t ∷ ts) f ef).spelled, ap length (need_is marks.Semicolon f.2 r er)) in
    functions_high h n m (fs ++ (f.0 ∷ []), 0, r.1) fewer (subst (λ d. next d ≡ Err High) (sym (ok_inj ev)) q))))

functions_at_high : (h : ℕ) (ts : List Tok) → functions_at h ts ≡ Err High → h ≤ length ts
unfolding functions_at loop
functions_at_high h ts q = functions_high h (suc (length ts)) (length ts) ([], 0, ts) (omega arith) q

pub file_high : (h : ℕ) (ts : List Tok) → file_at h ts ≡ Err High → h + 3 ≤ length ts
unfolding file_at
file_high h ts q =
    on_high (need marks.Package ts) _ q (λ q. need_low marks.Package ts q) (λ a ea q.
    on_high (name_at a.1) _ q (λ q. name_low a.1 q) (λ x ex q.
    on_high (need marks.Semicolon x.1) _ q (λ q. need_low marks.Semicolon x.1 q) (λ b eb q.
    on_high (functions_at h b.1) _ q
    (λ q. omega (arith, functions_at_high h b.1 q, ap length (need_is marks.Package ts a ea), ap length (name_is a.1 x ex).1, ap length (need_is marks.Semicolon x.1 b eb)))
    (λ fs ef q. absurd (cc)))))
