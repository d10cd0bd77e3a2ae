-- What a step touched that used one channel and met no partner, by the form in which its change is kept.
use Rattle.std.proofs.Common.{◌≡◌, ◌∷◌, Option, Some, sym, ap, ◌∙◌}
use Rattle.gr_base.specs.declared.names.ChName.{ChName}
use Rattle.gr_base.specs.declared.objects.Object.TheVariants.{Run, Go}
use Rattle.gr_channels.specs.declared.changes.ChanUndo.{ChanUndo}
use Rattle.gr_record.specs.declared.record.Contact.{Contact}
use Rattle.gr_record.specs.declared.record.Exchange.{Exchange}
use Rattle.gr_record.specs.declared.record.Form.{Form}
use Rattle.gr_record.specs.declared.record.Record.{Record}
use Rattle.gr_record.specs.declared.record.Touched.{Touched}
use Rattle.gr_record.specs.Conflicts.{read_by, written_by}
use Rattle.gr_record.specs.Effects.{Effect, effect_in, reached_by_exchange, reached_on}
use Rattle.gr_record.specs.Parts.{channel_in}
use Rattle.gr_touches.specs.Told.{read_on, written_on, written_on_with}
use Rattle.gr_touches.proofs.AddingLemmas.{read_further, written_further}

-- what is kept in a form is what the step reached
pub reached_in : (r : Record) (f g : Form) → effect_in f ≡ r.change → f ≡ g → r.change.beyond ≡ (effect_in g).beyond
reached_in r f g is kept = sym (ap (λ (e : Effect). e.beyond) is) ∙ ap (λ h. (effect_in h).beyond) kept

-- a step of this contact, by its channel and what it touched of it
module _ (r : Record) (contact : Contact) (undo : Option ChanUndo) (reached : r.change.beyond ≡ Some (reached_on contact undo)) (c : ChName) (t : Touched)
    (on : c ≡ channel_in contact.operation) (touched : t ≡ contact.touched) where
  pub read_used : read_by r ≡ Run ∷ read_on c t
  read_used = read_further r (reached_on contact undo) reached ∙ (λ i. Run ∷ read_on (sym on i) (sym touched i))

  pub written_used : written_by r ≡ Go r.id.go ∷ written_on c t
  written_used = written_further r (reached_on contact undo) reached ∙ (λ i. Go r.id.go ∷ written_on (sym on i) (sym touched i))

-- a step that met a partner, by its channel
module _ (r : Record) (e : Exchange) (reached : r.change.beyond ≡ Some (reached_by_exchange e)) (c : ChName)
    (on : c ≡ channel_in e.passage.contact.operation) where
  pub read_met : read_by r ≡ Run ∷ read_on c e.passage.contact.touched
  read_met = read_further r (reached_by_exchange e) reached ∙ (λ i. Run ∷ read_on (sym on i) e.passage.contact.touched)

  pub written_met : written_by r ≡ Go r.id.go ∷ written_on_with c e.passage.contact.touched e.met.0
  written_met =
      written_further r (reached_by_exchange e) reached ∙ (λ i. Go r.id.go ∷ written_on_with (sym on i) e.passage.contact.touched e.met.0)
