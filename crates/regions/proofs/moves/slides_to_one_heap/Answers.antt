use Rattle.regions.proofs.Slid.{slid_is, slid_only}
use Rattle.regions.proofs.moves.slides_to_one_heap.Goals as goal

pub returns : goal.returns
returns c = record {
  is = λ first place kept renew before apart end. slid_is place kept renew before apart first end;
  only = λ first place kept renew before apart end after slid target address_above. slid_only place kept renew before apart first end after slid target address_above;
}
