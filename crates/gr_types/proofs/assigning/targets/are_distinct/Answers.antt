use Rattle.std.proofs.Common.{◌≡◌, ◌∙◌, sym, ap, true, false, [], map}
use Rattle.gr_tree.specs.Exprs.{names_of}
use Rattle.gr_typing.specs.Names.{among, is_blank, are_distinct}
use Rattle.gr_types.proofs.LabelNames.{among_keys}
use Rattle.gr_types.proofs.NameLists.{twice, once}
use Rattle.gr_types.proofs.assigning.targets.are_distinct.Goals as goal

pub returns-then-contains : goal.returns-then-contains
returns-then-contains c =
    let x = c.name-item.result in
    let seen = c.loop-name.before.keys in
    let named : is_blank x.items ≡ false = ap is_blank (sym c.deref.ensures.value) ∙ sym c.is_blank.ensures ∙ c.if-is_blank.false in
    let known : among (map (λ k. k.now) seen) x.items ≡ true = ap (among (map (λ k. k.now) seen)) (sym c.as_slice-name.ensures.value) ∙ sym (among_keys seen c.as_slice-name.result.now) ∙ sym c.contains.ensures ∙ c.if-contains.true in
    twice seen c.args.names.now c.loop-name.name-index x (are_distinct [] (names_of c.args.names.now)) c.loop-name-test.true c.name-item.is named c.loop-name.invariant known

pub loop-name-preserved : goal.loop-name-preserved
loop-name-preserved c =
    let x = c.name-item.result in
    let seen = c.loop-name.before.keys in
    let named : is_blank x.items ≡ false = ap is_blank (sym c.deref.ensures.value) ∙ sym c.is_blank.ensures ∙ c.if-is_blank.false in
    let unknown : among (map (λ k. k.now) seen) x.items ≡ false = ap (among (map (λ k. k.now) seen)) (sym c.as_slice-name.ensures.value) ∙ sym (among_keys seen c.as_slice-name.result.now) ∙ sym c.contains.ensures ∙ c.if-contains.false in
    once seen c.args.names.now c.loop-name.name-index x (are_distinct [] (names_of c.args.names.now)) c.loop-name-test.true c.name-item.is named c.loop-name.invariant c.insert.new.self.keys c.as_slice-name.result c.as_slice-name.ensures.value unknown c.in_ok-insert.ensures.keys
