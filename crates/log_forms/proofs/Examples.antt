-- The logs that are moved for example, computed.
use mathlib.Core.Path.{refl}
use Rattle.events.specs.EventRecords.{request}
use Rattle.events.specs.Records.{records_from}
use Rattle.log_forms.specs.Moving.{first_bad, moved_records, moved_behind, moved_log}
use Rattle.log_forms.specs.Examples.{MovingExamples}

pub moving_examples : MovingExamples
unfolding request records_from first_bad moved_records moved_behind moved_log
moving_examples = record {
  to_new = refl;
  to_old = refl;
  options_alone = refl;
  explicit_only = refl;
  options_missing = refl;
  options_bad = refl;
  type_before_unknown = refl;
  unknown_before_type = refl;
  second_record = refl;
  type_3 = refl;
  cut_of_type_1 = refl;
  one_short = refl;
  bad_in_no_room = refl;
}
