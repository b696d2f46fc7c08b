use Rattle.std.proofs.Common.{sym, subst}
use Rattle.std.proofs.Math.Logic.{∥∥₁_map}
use Rattle.std.proofs.Math.Bool.{Bool-set}
use Rattle.heap_words.specs.Counter.{IsQuiet}
use Rattle.evac_room.proofs.Memory.{IsFit-prop, IsQuiet-prop, from_memory, spot_here, takes_here, made_from, made_event, made_reached, made_few, made_answer, made_keeps, made_says, found_fits}
use Rattle.evac_room.proofs.copiers.Copiers.step.Goals as goal

pub advance-requires-clause-fit : goal.advance-requires-clause-fit
advance-requires-clause-fit c =
    let spot_there = spot_here c.args.self.now.copiers.items c.args.number c.index_mut.result.now c.requires.number c.index_mut.ensures.value in
    from_memory (IsFit-prop _ _) _ _ c.args.self.now.few c.args.self.now.reached
    (found_fits c.args.self.now.word c.args.self.now.copiers.items c.args.number c.index_mut.result.now c.args.wish spot_there
    (takes_here c.args.self.now.copiers.items c.args.number c.index_mut.result.now c.args.wish spot_there c.requires.wish))

pub invariant_of-self : goal.invariant_of-self
invariant_of-self c = record {
  few = made_few _ _ _ _ _ _ _ (made_from c.args.self.now.word c.advance.new.word c.args.self.now.copiers.items c.args.number c.index_mut.result.now c.advance.new.self c.args.wish
      c.requires.number c.index_mut.ensures.value c.requires.wish c.advance.ensures.spot c.advance.ensures.word) c.args.self.now.few;
  reached = ∥∥₁_map c.args.self.now.reached (made_reached _ _ _ _ _ _ _ (made_from c.args.self.now.word c.advance.new.word c.args.self.now.copiers.items c.args.number c.index_mut.result.now c.advance.new.self c.args.wish
      c.requires.number c.index_mut.ensures.value c.requires.wish c.advance.ensures.spot c.advance.ensures.word));
}

pub returns-clause-step : goal.returns-clause-step
returns-clause-step c = made_event _ _ _ _ _ _ _ (made_from c.args.self.now.word c.advance.new.word c.args.self.now.copiers.items c.args.number c.index_mut.result.now c.advance.new.self c.args.wish
    c.requires.number c.index_mut.ensures.value c.requires.wish c.advance.ensures.spot c.advance.ensures.word)

pub returns-clause-says : goal.returns-clause-says
returns-clause-says c = made_answer _ _ _ _ _ _ _ (made_from c.args.self.now.word c.advance.new.word c.args.self.now.copiers.items c.args.number c.index_mut.result.now c.advance.new.self c.args.wish
    c.requires.number c.index_mut.ensures.value c.requires.wish c.advance.ensures.spot c.advance.ensures.word) c.advance.result c.advance.ensures.says

pub returns-clause-bit_stays : goal.returns-clause-bit_stays
returns-clause-bit_stays c = from_memory (hlevel (Bool-set)) _ _ c.args.self.now.few c.args.self.now.reached
    (λ sound. (made_keeps _ _ _ _ _ _ _ (made_from c.args.self.now.word c.advance.new.word c.args.self.now.copiers.items c.args.number c.index_mut.result.now c.advance.new.self c.args.wish
    c.requires.number c.index_mut.ensures.value c.requires.wish c.advance.ensures.spot c.advance.ensures.word) sound).bit_stays)

pub returns-clause-stopped_is_quiet : goal.returns-clause-stopped_is_quiet
returns-clause-stopped_is_quiet c = λ stopped. from_memory (IsQuiet-prop _) _ _ c.args.self.now.few c.args.self.now.reached
    (λ sound. (made_says _ _ _ _ _ _ _ (made_from c.args.self.now.word c.advance.new.word c.args.self.now.copiers.items c.args.number c.index_mut.result.now c.advance.new.self c.args.wish
    c.requires.number c.index_mut.ensures.value c.requires.wish c.advance.ensures.spot c.advance.ensures.word) c.advance.result c.advance.ensures.says sound).stopped_is_quiet stopped)

pub returns-clause-quiet_stays : goal.returns-clause-quiet_stays
returns-clause-quiet_stays c = λ quiet. from_memory (IsQuiet-prop _) _ _ c.args.self.now.few c.args.self.now.reached
    (λ sound. subst IsQuiet (sym ((made_keeps _ _ _ _ _ _ _ (made_from c.args.self.now.word c.advance.new.word c.args.self.now.copiers.items c.args.number c.index_mut.result.now c.advance.new.self c.args.wish
    c.requires.number c.index_mut.ensures.value c.requires.wish c.advance.ensures.spot c.advance.ensures.word) sound).quiet_stays quiet)) quiet)
