use Rattle.std.proofs.Common.{refl, subst}
use Rattle.find_play.specs.declared.thread.Next.TheVariants.{Keep, Command, Done, TooLong}
use Rattle.find_play.specs.Plays.{Notes, KeepsOn, Acts, Keeps}
use Rattle.find_play.proofs.Keeping.{keeps_less}
use Rattle.find_play.proofs.cast.go_on.Goals as goal

pub keeps-preserved : goal.keeps-preserved
keeps-preserved c = λ next end after goes.
    c.keeps.invariant next end after
    (Keeps c.keeps.thread c.next.new.self end c.in-Keep.note c.keeps.notes after next c.in-Keep.ensures
    (subst (λ (notes : Notes). KeepsOn c.args.program.now c.args.reply c.next.new.self notes next end after) c.keep.ensures goes))

pub keeps-smaller : goal.keeps-smaller
keeps-smaller c = keeps_less c.args.program.now c.args.reply c.in-Keep.note c.keeps.thread c.next.new.self (Keep c.in-Keep.note) c.in-Keep.ensures refl

pub returns-in-Command : goal.returns-in-Command
returns-in-Command c = c.keeps.invariant (Command c.in-Command.command) c.next.new.self c.keeps.notes (Acts c.keeps.thread c.next.new.self c.keeps.notes (Command c.in-Command.command) refl c.in-Command.ensures)

pub returns-in-Done : goal.returns-in-Done
returns-in-Done c = c.keeps.invariant Done c.next.new.self c.keeps.notes (Acts c.keeps.thread c.next.new.self c.keeps.notes Done refl c.in-Done.ensures)

pub returns-in-TooLong : goal.returns-in-TooLong
returns-in-TooLong c = c.keeps.invariant TooLong c.next.new.self c.keeps.notes (Acts c.keeps.thread c.next.new.self c.keeps.notes TooLong refl c.in-TooLong.ensures)
