-- What is made ready for a communication with a goroutine that waits.
use Rattle.std.proofs.Common.{◌≡◌, ℕ, suc, Bool, true, false, not, ◌&&◌, ◌||◌, List, [], ◌∷◌, ◌++◌, length, Some, refl, sym, ap, subst, ◌∙◌}
use Rattle.std.specs.Prelude.{option_map}
use Rattle.std.specs.List.{list_any}
use Rattle.std.proofs.lemmas.List.Folds.{list_any-append}
use Rattle.gr_base.specs.declared.names.ChName.{ChName}
use Rattle.gr_rules.specs.Operators.{same_channel}
use Rattle.gr_rules.specs.Goroutines.{Wait, waiting, channel_of}
use Rattle.gr_rules.specs.Actors.{channels_but}
use Rattle.gr_refine.specs.Meetings.{NamesChannels}
use Rattle.gr_refine.specs.Partners.{waits_in}
use Rattle.gr_refine.proofs.MeetingLemmas.{named}
use Rattle.gr_refine.proofs.NameLemmas.{channel_self}
use Rattle.gr_goros.specs.Views.{Seen, waits_of}
use Rattle.gr_goros.specs.declared.wait.Wait.{Wait as DeclaredWait}
use Rattle.gr_tables.specs.NamedGoroutines.{At, goroutines_of, seen_of}
use Rattle.gr_tables.specs.declared.goroutines.Goroutines.{Goroutines}
use Rattle.gr_step.specs.Preparing.{WaitsFor, AreToLeave}

last_or_first : (a b : Bool) → ((not (a || false) && b) || (a || false)) ≡ (a || b)
last_or_first true b = refl
last_or_first false true = refl
last_or_first false false = refl

-- the channels of the waits, and this one last
names_at_last : (c : ChName) (ws : List Wait) → NamesChannels (channels_but (c ∷ []) ws ++ c ∷ []) c ws
names_at_last c ws d =
    list_any-append (same_channel d) (channels_but (c ∷ []) ws) (c ∷ [])
    ∙ ap (λ b. b || (same_channel d c || false)) (named d (c ∷ []) ws)
    ∙ last_or_first (same_channel d c) (list_any (λ w. same_channel d (channel_of w)) ws)

-- as many waits as are seen
waits_count : (ws : List DeclaredWait) → length (waits_of ws) ≡ length ws
waits_count [] = refl
waits_count (w ∷ ws) = ap suc (waits_count ws)

-- one that waits for one thing alone is to leave none, and any other all
pub none_to_leave : (c : ChName) (ws : List DeclaredWait) → length ws ≡ 1 → AreToLeave [] c (waits_of ws)
none_to_leave c ws one = record { alone = λ same. refl; otherwise = λ more. absurd (more (waits_count ws ∙ one)) }

pub all_to_leave : (c : ChName) (ws : List DeclaredWait) → ¬ (length ws ≡ 1)
    → AreToLeave (channels_but (c ∷ []) (waits_of ws) ++ c ∷ []) c (waits_of ws)
all_to_leave c ws more = record {
  alone = λ one. absurd (more (sym (waits_count ws) ∙ one));
  otherwise = λ many. names_at_last c (waits_of ws);
}

-- a goroutine that waits, as it was seen
pub waits_there : (o : Goroutines) (n : List ℕ) (g : Seen) (ws : List Wait) → Some g ≡ seen_of o n → At (WaitsFor ws) (goroutines_of o n)
    → g.content.status ≡ waiting ws
waits_there o n g ws seen h = subst {_, _} (λ x. At (WaitsFor ws) (option_map (λ (g : Seen). g.content) x)) (sym seen) h

-- a goroutine that waits for one thing alone leaves no further channel
pub alone_leaves_none : (w : Wait) (c : ChName) (ws : List Wait) → waiting (w ∷ []) ≡ waiting ws → AreToLeave [] c ws
alone_leaves_none w c ws is =
    let same : w ∷ [] ≡ ws = ap waits_in is in
    subst (λ (l : List Wait). AreToLeave [] c l) same (record { alone = λ one. refl; otherwise = λ not. absurd (not refl) })

-- nor does one that waits on this channel alone wait on another
none_here : (w : Wait) (c : ChName) → channel_of w ≡ c → channels_but (c ∷ []) (w ∷ []) ≡ []
none_here w c is = rw (is, channel_self c) refl

pub waits_for_one : (w : Wait) (c : ChName) (ws : List Wait) → channel_of w ≡ c → waiting (w ∷ []) ≡ waiting ws
    → AreToLeave [] c ws × (channels_but (c ∷ []) ws ≡ [])
waits_for_one w c ws on is =
    (alone_leaves_none w c ws is, subst (λ (l : List Wait). channels_but (c ∷ []) l ≡ []) (ap waits_in is) (none_here w c on))
