use Rattle.std.proofs.Common.{◌≡◌, [], ◌∷◌, codes, refl}
use Rattle.shen_base.proofs.Stages.{puts_both, puts_same}
use Rattle.trace_reading.specs.Spelling.{titled}
use Rattle.heap_dump.proofs.write.put_head.Goals as goal

pub returns : goal.returns
returns g c =
    let config = c.args.config.now in
    let heap : titled (codes "heap") (c.regions.result ∷ c.region_words.result ∷ c.reserve.result ∷ []) ≡ titled (codes "heap") (config.regions ∷ config.region_words ∷ config.reserve ∷ []) =
    rw (c.regions.ensures, c.region_words.ensures, c.reserve.ensures) refl in
    let threads : titled (codes "threads") (c.mutators.result ∷ c.helpers.result ∷ []) ≡ titled (codes "threads") (config.mutators ∷ config.helpers ∷ []) =
    rw (c.mutators.ensures, c.helpers.ensures) refl in
    puts_both c.put_title.ensures (puts_both (puts_same heap c.put_title-2.ensures) (puts_same threads c.put_title-3.ensures))
