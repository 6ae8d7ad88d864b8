-- Archives, computed.
use mathlib.Core.Path.{refl}
use Rattle.events.specs.EventRecords.{request}
use Rattle.events.specs.Records.{records_from}
use Rattle.log_archives.specs.Regrouping.{columns, grouped_bodies, archive_of}
use Rattle.log_archives.specs.Undoing.{octets_of, every_from, undone_from}
use Rattle.log_archives.specs.Judging.{first_bad, packed_records, packed, unpacked_records, first_unknown, unpacked_kinds, unpacked_counted, unpacked}
use Rattle.log_archives.specs.Examples.{ArchiveExamples}

pub archive_examples : ArchiveExamples
unfolding request records_from columns grouped_bodies archive_of octets_of every_from undone_from first_bad packed_records packed unpacked_records first_unknown unpacked_kinds unpacked_counted unpacked
archive_examples = record {
  packs = refl;
  unpacks = refl;
  empty_packed = refl;
  empty_unpacked = refl;
  one_octet = refl;
  bad_options = refl;
  archive_of_one_octet = refl;
  archive_of_bad_options = refl;
  cut = refl;
  unknown = refl;
  state_9 = refl;
  no_count = refl;
  three_of_four = refl;
  largest_count = refl;
  unknown_second = refl;
  one_octet_short = refl;
  one_octet_over = refl;
  short_of_state_9 = refl;
  second_state_9 = refl;
  packed_too_small = refl;
  unpacked_too_small = refl;
  bad_in_no_room = refl;
  disagree_in_no_room = refl;
  unfit_5 = refl;
  cut_short_3 = refl;
  unknown_4 = refl;
  disagree_3 = refl;
  too_small_1 = refl;
}
