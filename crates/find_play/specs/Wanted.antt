-- Which replies are such as is asked for.
use Rattle.std.specs.Prelude.{ℕ, ◌==◌, Bool, true, false}
use Rattle.shen_graph.specs.declared.command.Reply.{Reply}
use Rattle.shen_graph.specs.declared.command.Reply.TheVariants as reply
use Rattle.find_play.specs.declared.wanted.Wanted.{Wanted}
use Rattle.find_play.specs.declared.wanted.Wanted.TheVariants.{Yes, No, Null, Object, Ok, Full, Bad, Number, Pinned}

-- the reply is such as is asked for
abbrev pub fits : Wanted → Reply → Bool
fits Yes reply.Yes = true
fits No reply.No = true
fits Null reply.Null = true
fits Object (reply.Ref name) = true
fits Ok reply.Ok = true
fits Full reply.Full = true
fits Bad reply.Bad = true
fits (Number asked) (reply.Number answered) = asked == answered
fits Pinned (reply.At place) = true
fits _ _ = false
