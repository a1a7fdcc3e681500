use Rattle.std.proofs.Common.{◌∙◌, ap, sym, length, arith}
use Rattle.std.proofs.lemmas.List.{nil_from_length}
use Rattle.std.proofs.lemmas.Result.{err_from_is_err_and}
use Rattle.leveldb_mem.specs.Log.Reader.{wrong_checksum, torn}
use Rattle.leveldb_mem.proofs.ReaderLemmas.{read_failed, read_stopped, ok_is}
use Rattle.leveldb_mem.proofs.log.reader.ReaderCore.read.Goals as goal
use Rattle.leveldb_mem.proofs.log.reader.ReaderCore.read.Goals.{in-Ok-WrongChecksum, in-Ok-Damage, in-Err}

pub returns : goal.returns
returns g c =
    let fails = read_failed g.S.Source.gives c.args.self.now c.args.source.now c.match-next_record.failed in
    elim c.match-next_record.branch [
      | in-Ok-WrongChecksum w ↦ (
          let p = err_from_is_err_and w.corruption-failed.result w.corruption-failed.ensures.code in
          let text = rw p.1 at w.corruption-failed.ensures.text in
          let found = rw w.in-Ok-WrongChecksum.field-0-is at w.in-Ok-WrongChecksum.ensures.found in
          fails p.0 _ _ _ (w.failed-is ∙ p.1) c.clear.ensures.items (λ usable. wrong_checksum (record { code = p.2; text = text }) found) (λ failed. absurd (w.in-Ok-WrongChecksum.ensures.failed failed).0))
      | in-Ok-Damage w ↦ (
          let p = err_from_is_err_and w.corruption-failed-in-Ok-Damage.result w.corruption-failed-in-Ok-Damage.ensures.code in
          let found = rw w.in-Ok-Damage.field-0-is at w.in-Ok-Damage.ensures.found in
          let broken = rw w.in-Ok-Damage.field-0-is at w.in-Ok-Damage.ensures.damage in
          fails p.0 _ _ _ (w.failed-is ∙ p.1) c.clear.ensures.items (λ usable. torn p.2 found (broken tt)) (λ failed. absurd (w.in-Ok-Damage.ensures.failed failed).0))
      | in-Err w ↦ fails _ _ _ _ w.failed-is c.clear.ensures.items (λ usable. read_stopped g.S.Source.gives (w.in-Err.ensures.err usable).0 (w.in-Err.ensures.err usable).1) (λ failed. w.in-Err.ensures.failed failed)
    ]

pub returns-in-Ok-Record : goal.returns-in-Ok-Record
returns-in-Ok-Record g c =
    let found = rw c.in-Ok-Record.field-0-is at c.in-Ok-Record.ensures.found in
    let counted = c.len.ensures ∙ c.next_record.new.target.ok.0 in
    record {
      count = counted;
      found = λ some. found;
      end = λ none. absurd (found.is_record.some (nil_from_length c.next_record.new.target.items (sym counted ∙ ok_is none)));
      err = λ usable. tt;
      failed = λ failed. absurd (c.in-Ok-Record.ensures.failed failed).0;
      cleared = tt;
    }

pub returns-in-Ok-End : goal.returns-in-Ok-End
returns-in-Ok-End g c =
    let found = rw c.in-Ok-End.field-0-is at c.in-Ok-End.ensures.found in
    record {
      count = sym (ap length found.1);
      found = λ some. absurd (omega (arith, some));
      end = λ none. found.0;
      err = λ usable. tt;
      failed = λ failed. absurd (c.in-Ok-End.ensures.failed failed).0;
      cleared = tt;
    }
