use Rattle.std.proofs.Common.{◌≡◌, None, Some, rules, ap, ◌∙◌, sym, refl, inl, inr}
use Rattle.std.specs.Prelude.{is_some}
use Rattle.std.proofs.lemmas.Bool.{true≢false}
use Rattle.leveldb_base.specs.Types.{pair_of}
use Rattle.leveldb_table.specs.TableReaderBlocks.{line_of}
use Rattle.leveldb_table.specs.TableBlock.{lacking, unnamed}
use Rattle.leveldb_table.proofs.TableBlockLemmas.{KeepsDisk-refl, reads_own, reads_weaker}
use Rattle.leveldb_table.proofs.TableReaderMovesLemmas.{names_none, names_one}
use Rattle.leveldb_table.proofs.BlockCacheLemmas.{GainsBlocks-refl}
use Rattle.leveldb_table.proofs.TableReaderWalkLemmas.{err_holds, ok_refused}
use Rattle.leveldb_table.proofs.table_reader.walk.TableCore.load_line.Goals as goal

pub returns : goal.returns
returns g c =
    let handle = c.in_ok-handle.handle in
    let line : line_of c.args.self.now ≡ Some (c.in-Some.field-0-0.now, c.in-Some.value.now) = sym (ap line_of c.self.view_is) ∙ sym c.current.ensures ∙ ap pair_of c.in-Some.is in
    record {
      reads = reads_weaker g.E.Env c.load.result (λ status lacks. (lacks.0, λ bytes has. lacking handle (names_one handle line c.in_ok-handle.ensures.ok.1) (lacks.1 bytes has))) c.load.ensures.reads;
      block = search rules;
      position = c.load.ensures.position;
      err = c.load.ensures.err;
      index = c.load.ensures.index;
      gathers = c.load.ensures.gathers;
      same = c.load.ensures.same;
    }

pub returns-in_err-handle : goal.returns-in_err-handle
returns-in_err-handle g c =
    let line : line_of c.args.self.now ≡ Some (c.in-Some.field-0-0.now, c.in-Some.value.now) = sym (ap line_of c.self.view_is) ∙ sym c.current.ensures ∙ ap pair_of c.in-Some.is in
    let result = c.from_residual.result in
    let refused = c.from_residual.ensures.1 in
    record {
      reads = reads_own g.E.Env result (KeepsDisk-refl g.E.Env c.args.reader.now.env.now) refl refused (λ status is.
          let code = ap (λ z. z.code) is ∙ c.in_err-handle.ensures.err.0 in
          inr (inl code, λ bytes has. unnamed (names_none line c.in_err-handle.ensures.err.1) code));
      block = ok_refused _ _ result refused;
      position = ok_refused _ _ result refused;
      err = err_holds result refl;
      index = refl;
      gathers = GainsBlocks-refl c.args.reader.now.table.now.id _ c.args.reader.now.cache.now;
      same = record { table = refl; compressors = refl; env = refl; cache = refl };
    }

pub returns-in_default : goal.returns-in_default
returns-in_default g c =
    let line : line_of c.args.self.now ≡ None = sym (ap line_of c.self.view_is) ∙ sym c.current.ensures ∙ ap pair_of c.in_default.is in
    absurd (true≢false (sym c.requires ∙ ap is_some line))
