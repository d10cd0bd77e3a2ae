-- Nothing that is told has a fraction.
use Rattle.std.proofs.Common.{◌≡◌, ◌||◌, ℕ, Bool, false, List, [], ◌∷◌, map, Option, Some, None, refl, ap₂}
use Rattle.serde_json.specs.Data.{Data}
use Rattle.serde_json.specs.View.{items_of}
use Rattle.serde_json.specs.Written.{has_float, items_have_float}
use Rattle.gr_base.specs.declared.values.Value.{Value}
use Rattle.gr_channels.specs.declared.waiter.Waiter.{Waiter}
use Rattle.gr_command.specs.Replies.{Said, Stepped, Ran, Undone, Shown, Channel, Lines, Log, Steps, PartlyDone, BreaksDependence, Acknowledged, Granted, Committed, Stale, No}
use Rattle.gr_base.specs.declared.objects.Object.{Object}
use Rattle.gr_base.specs.declared.objects.Object.TheVariants.{Run, Go, Gate, Tail, Head, Slot}
use Rattle.gr_facts.specs.Facts.{Facts}
use Rattle.gr_facts.specs.Moved.{Moved}
use Rattle.gr_facts.specs.declared.sources.Source.{Source}
use Rattle.gr_json.specs.Facts.{operation_data, owner_data, slot_of, source_data, place_data, facts_data, moved_data}
use Rattle.gr_json.specs.Parts.{text, count, go_data, channel_data, step_data, value_data, kind_data, perhaps, list}
use Rattle.gr_rules.specs.Attempts.{Operation}
use Rattle.gr_json.specs.Replies.{variable_data, frame_data, receiver_data, sender_data, kept_data, reply_data, said_data, end_kind, end_line}
use Rattle.gr_json.specs.Stacks.{stack_data, stack_frame_data}
use Rattle.gr_queries.specs.Stacks.{Stack}
use Rattle.gr_rules.specs.Tells.{FrameShown}

abbrev pub IsPlain : Data → Type 0
IsPlain d = has_float d ≡ false

pub neither : (a b : Bool) → a ≡ false → b ≡ false → (a || b) ≡ false
neither a b h k = ap₂ (λ x y. x || y) h k

pub items_plain : {A : Type 0} (f : A → Data) → ((x : A) → IsPlain (f x)) → (xs : List A) → items_have_float (items_of (map f xs)) ≡ false
items_plain f plain [] = refl
items_plain f plain (x ∷ xs) = neither _ _ (plain x) (items_plain f plain xs)

pub list_plain : {A : Type 0} (f : A → Data) → ((x : A) → IsPlain (f x)) → (xs : List A) → IsPlain (list f xs)
list_plain f plain xs = items_plain f plain xs

pub perhaps_plain : {A : Type 0} (f : A → Data) → ((x : A) → IsPlain (f x)) → (o : Option A) → IsPlain (perhaps f o)
perhaps_plain f plain None = refl
perhaps_plain f plain (Some a) = plain a

frame_plain : (f : FrameShown) → IsPlain (frame_data f)
frame_plain f = neither _ _ (list_plain variable_data (λ v. refl) f.variables) refl

receiver_plain : (w : Waiter (Unit {0})) → IsPlain (receiver_data w)
receiver_plain w = neither _ _ (perhaps_plain count (λ n. refl) w.case) refl

sender_plain : (w : Waiter Value) → IsPlain (sender_data w)
sender_plain w = neither _ _ (perhaps_plain count (λ n. refl) w.case) refl

pub reply_plain : (said : Said) → IsPlain (reply_data said)
reply_plain (Stepped id kind) = refl
reply_plain (Ran steps end) =
    neither _ _ (perhaps_plain kind_data (λ k. refl) (end_kind end)) (neither _ _ (perhaps_plain count (λ n. refl) (end_line end)) refl)
reply_plain (Undone id) = refl
reply_plain (Shown go g) =
    neither _ _ (list_plain frame_data frame_plain g.frames) (neither _ _ (perhaps_plain count (λ n. refl) g.line) refl)
reply_plain (Channel c) =
    neither _ _ (list_plain value_data (λ v. refl) c.items)
    (neither _ _ (list_plain receiver_data receiver_plain c.receivers) (neither _ _ (list_plain sender_data sender_plain c.senders) refl))
reply_plain (Lines lines) = neither _ _ (list_plain text (λ l. refl) lines) refl
reply_plain (Log steps) = neither _ _ (list_plain kept_data (λ s. refl) steps) refl
reply_plain (Steps ids) = neither _ _ (list_plain step_data (λ i. refl) ids) refl
reply_plain (PartlyDone ids) = neither _ _ (list_plain step_data (λ i. refl) ids) refl
reply_plain (BreaksDependence earlier later) = refl
reply_plain Acknowledged = refl
reply_plain (Granted steps) = refl
reply_plain (Committed steps) = refl
reply_plain Stale = refl
reply_plain (No why) = refl

pub said_plain : (said : Said) → IsPlain (said_data said)
said_plain said = neither _ _ (reply_plain said) refl

operation_plain : (o : Operation) → IsPlain (operation_data o)
operation_plain o = refl

owner_plain : (o : Object) → IsPlain (perhaps (λ owner. owner) (owner_data o))
owner_plain Run = refl
owner_plain (Go go) = refl
owner_plain (Gate c) = refl
owner_plain (Tail c) = refl
owner_plain (Head c) = refl
owner_plain (Slot c place) = refl

source_plain : (s : Source) → IsPlain (source_data s)
source_plain s =
    neither _ _ (owner_plain s.object)
    (neither _ _ (perhaps_plain count (λ n. refl) (slot_of s.object)) (neither _ _ (perhaps_plain step_data (λ i. refl) s.step) refl))

place_plain : (function : Option (List ℕ)) (line : Option ℕ) → IsPlain (place_data function line)
place_plain function line =
    neither _ _ (perhaps_plain text (λ t. refl) function) (neither _ _ (perhaps_plain count (λ n. refl) line) refl)

pub facts_plain : (f : Facts) → IsPlain (facts_data f)
facts_plain f =
    neither _ _ (place_plain f.function f.line)
    (neither _ _ (perhaps_plain operation_data operation_plain f.operation)
    (neither _ _ (list_plain text (λ t. refl) f.given)
    (neither _ _ (perhaps_plain channel_data (λ c. refl) f.made)
    (neither _ _ (list_plain go_data (λ g. refl) f.reached) (neither _ _ (list_plain source_data source_plain f.sources) refl)))))

pub moved_plain : (m : Moved) → IsPlain (moved_data m)
moved_plain m = neither _ _ (perhaps_plain text (λ t. refl) m.printed) (neither _ _ (perhaps_plain value_data (λ v. refl) m.value) refl)

stack_frame_plain : (f : FrameShown × ℕ) → IsPlain (stack_frame_data f)
stack_frame_plain f = neither _ _ (list_plain variable_data (λ v. refl) f.0.variables) refl

pub stack_plain : (s : Stack) → IsPlain (stack_data s)
stack_plain s = neither _ _ (list_plain stack_frame_data stack_frame_plain s.frames) refl
