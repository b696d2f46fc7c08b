-- What the steps of recording an address and of scanning a unit owe: any machine that has a seat can have them inside.
use Rattle.std.proofs.Common.{refl}
use Rattle.cycle_steps.specs.Laws.{RecordingSteps, ScanningSteps}
use Rattle.satb_barrier.proofs.Remembering.{found_is_fit}
use Rattle.cycle_steps.proofs.Records.{each_records, takes_in_hand, can_record_stays, record_inside, record_noted}
use Rattle.unit_part.proofs.ScanInside.{scan_inside}
use Rattle.cycle_steps.proofs.Scans.{each_scans, can_scan_stays, hint_scans}

-- what the steps of recording owe
pub recording_steps : RecordingSteps
recording_steps = record {
  begins = λ given_config world_now mutator taken_address seated marking object idle scanless roomless shared. takes_in_hand given_config world_now mutator taken_address seated marking object idle scanless roomless shared;
  steps = λ config mutator address. record {
    stands = λ world spot world_shared can_record. record { stays = λ later_world rely. can_record_stays config world later_world mutator rely address spot can_record; inside = record_inside config world mutator address spot can_record };
    goes = λ world_now spot going shared can_record. record { step = each_records config world_now mutator address spot going shared can_record; fits = found_is_fit config world_now.memory mutator address spot can_record.words };
  };
  fits = λ config world_now mutator address spot can_record. found_is_fit config world_now.memory mutator address spot can_record.words;
  noted = λ config world mutator recorded spot can_record. record_noted config world mutator recorded spot can_record;
}

-- and those of scanning
pub scanning_steps : ScanningSteps
scanning_steps = record {
  begins = λ given_config world_now seat seated marking unrecorded idle roomless. record { seated = seated; phase = marking; scanning = idle; records_none = unrecorded; ready = refl; hands = roomless; facts = tt };
  hinted = λ config world seat address can_scan. hint_scans config world seat address can_scan;
  steps = λ config seat. record {
    stands = λ world_now spot world_shared can_scan. record { stays = λ later_world rely. can_scan_stays config world_now later_world seat rely spot can_scan; inside = scan_inside config spot can_scan.ready };
    goes = λ world_now spot going shared can_scan. let step = each_scans config world_now seat spot going shared can_scan in record { step = step; fits = step.own.0.ready };
  };
}
