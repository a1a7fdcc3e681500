-- The laws of the log, proved.
use Rattle.std.proofs.Common.{refl, sym, ◌∙◌, ap, arith, length-append, lit≤}
use Rattle.std.proofs.lemmas.List.{take_at, take-append-le, drop-append-le, length-drop}
use Rattle.std.specs.Prelude.{◌≡◌, ℕ, ◌≤◌, true, List, ◌++◌, length, take, drop}
use Rattle.leveldb_mem.specs.Log.{IsBlockSize, log_block_size}
use Rattle.leveldb_mem.specs.Laws.{OneLogReading, EachIsLog, AreFirst, CutReads, FirstRecords, BreaksBad, BreaksOnce, RecordFramed, RecordsFramed, OneRecordFraming, OneFraming, FramingReads, LogsAppend, FramingsAppend, CutIsHonest, CrashLeaves, LogLaws}
use Rattle.leveldb_mem.proofs.LogLemmas as logs
use Rattle.leveldb_mem.proofs.CrashLemmas as crashes

pub one_reading : OneLogReading
one_reading checked size offset bytes records others end other_end block = logs.one_log checked size block.most offset bytes records others end other_end

pub each_reads : EachIsLog
each_reads checked size offset bytes block = logs.log_reads checked size block.most offset bytes

-- what is a prefix of some records
first_of : (least : ℕ) (records found others : List (List ℕ)) → records ≡ found ++ others → least ≤ length found → AreFirst least records found
first_of least records found others e enough =
    let whole = ap length e in
    let both = length-append found others in
    record { count = length found; enough = enough; there = omega arith; first = sym (take_at found others (length found) refl) ∙ ap (take (length found)) (sym e) }

longer : (found first others : List (List ℕ)) → found ≡ first ++ others → length first ≤ length found
longer found first others e =
    let whole = ap length e in
    let both = length-append first others in
    omega arith

pub cut_reads : CutReads
cut_reads checked size offset front part rest first found records first_end found_end end block is_first is_found is =
    let lower = logs.cut_log checked size block.most offset front part found first found_end first_end is_found is_first in
    let upper = logs.cut_log checked size block.most offset (front ++ part) rest records found end found_end is is_found in
    first_of (length first) records found upper.0 upper.1 (longer found first lower.0 lower.1)

pub front_of_records : FirstRecords
front_of_records = logs.first_records

pub breaks_bad : BreaksBad
breaks_bad size offset front more block inside off = crashes.breaks_bad size block.most offset front more inside off

pub breaks_once : BreaksOnce
breaks_once size offset these those more others block inside off other e = crashes.breaks_once size block.most offset these those more others inside off other e

pub record_framed : RecordFramed
record_framed size offset text block inside some = logs.framed_record_is size block.least text offset inside some

pub records_framed : RecordsFramed
records_framed size offset records block inside some = logs.framed_is size block.least records offset inside some

pub one_record_framing : OneRecordFraming
one_record_framing size offset text these those block inside is_these is_those = logs.one_record_framing size block.least offset inside text these those is_these is_those

pub one_framing : OneFraming
one_framing size offset records these those block inside is_these is_those = logs.one_framing size block.least offset inside records these those is_these is_those

pub framing_reads : FramingReads
framing_reads checked size offset records bytes is = logs.framing_reads checked size records offset bytes is

pub logs_append : LogsAppend
logs_append checked size offset records others front rest end block inside is_front is_rest = logs.log_append size block.least checked offset inside records others front rest end is_front is_rest

pub framings_append : FramingsAppend
framings_append size offset records others front rest block inside is_front is_rest = logs.framing_append size block.least offset inside records others front rest is_front is_rest

pub cut_is_honest : CutIsHonest
cut_is_honest size front rest offset n began there =
    let inside = crashes.within size front offset n there in
    let left = length-drop offset front in
    sym (ap (take n) (drop-append-le offset front rest (omega arith)) ∙ take-append-le n (drop offset front) rest (omega arith))

pub crash_leaves : CrashLeaves
crash_leaves size kept since missing tail first stood records found first_end stood_end found_end block is_first is_stood is short honest is_found =
    let lower = logs.cut_log true size block.most 0 kept tail found first found_end first_end is_found is_first in
    let n = length-append kept since in
    let m = length-append kept tail in
    let upper = crashes.honest_stood size block.least block.most (kept ++ since) missing (kept ++ tail) records stood found stood_end found_end is is_stood is_found (omega arith) honest in
    first_of (length first) stood found upper.0 upper.1 (longer found first lower.0 lower.1)

-- the usual size is one
pub usual_size : IsBlockSize log_block_size
usual_size = record { least = lit≤ tt; most = lit≤ tt }

pub log_laws : LogLaws
log_laws = record {
  one = λ bytes these those e1 e2. one_reading true log_block_size 0 bytes these those e1 e2 usual_size;
  fits = crashes.within log_block_size;
  more = crashes.one_more log_block_size usual_size;
  part = crashes.cut_short log_block_size usual_size;
  cut = crashes.cut_at log_block_size usual_size;
  torn = λ front rest tail first records stood text n e1 e2 some is_first is is_stood short honest. (
      let found = crashes.torn log_block_size usual_size front rest tail first records stood text n e1 e2 some is_first is is_stood short honest in
      (found.0, found.1, found.2, first_of (length first) stood found.0 found.3.0 found.3.1 (longer found.0 first found.4.0 found.4.1)));
}
