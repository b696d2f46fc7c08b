use Rattle.std.proofs.Common.{◌≡◌, List, get_or, length, refl, sym, subst, ◌∙◌, arith}
use Rattle.std.specs.Vec.{with_items}
use Rattle.std.proofs.lemmas.List.{with_items_is}
use Rattle.std.proofs.lemmas.Option.{slice_get-get_or}
use Rattle.find_play.specs.declared.statement.Statement.{Statement}
use Rattle.find_play.specs.declared.thread.Thread.{Thread}
use Rattle.find_play.specs.Plays.{Notes, KeepsOn, start}
use Rattle.find_play.proofs.cast.Cast.step.Goals as goal

pub returns : goal.returns
returns c =
    let before = c.args.self.now in
    let from : Thread = get_or before.threads c.args.number (start 0) in
    let next_thread = c.go_on-next.new.thread in
    let next = c.go_on-next.result in
    let kept_notes : Notes = (with_items before.notes c.go_on-next.new.notes).items in
    let same_length : length c.go_on-next.new.notes ≡ before.notes.len = c.go_on-next.auto.notes ∙ c.deref_mut.ensures.len in
    let items : kept_notes ≡ c.go_on-next.new.notes = with_items_is before.notes c.go_on-next.new.notes same_length in
    record {
      from = from;
      to = next_thread;
      next = next;
      here = slice_get-get_or before.threads c.args.number (start 0) (omega arith);
      goes =
          subst (λ (program : List Statement). KeepsOn program c.args.reply from before.notes.items next next_thread kept_notes) c.program_of.ensures
          (subst (λ (notes : Notes). KeepsOn c.program_of.result.now c.args.reply from notes next next_thread kept_notes) c.deref_mut.ensures.value
          (subst (λ (notes : Notes). KeepsOn c.program_of.result.now c.args.reply from c.deref_mut.result.now next next_thread notes) (sym items) c.go_on-next.ensures));
      threads = refl;
      acts = refl;
    }
