use Rattle.std.proofs.Common.{◌≡◌, Ok, Err, refl, ◌∙◌, ap, inl}
use Rattle.std.proofs.lemmas.Result.{IfErr-weaker}
use Rattle.leveldb_env.specs.contracts.compressor.CompressorListCompressors.TheImpl
use Rattle.leveldb_table.specs.TableReaderBlocks.{let_position}
use Rattle.leveldb_table.specs.TableReader.{may_contain}
use Rattle.leveldb_table.specs.TableReaderMoves.{found_with}
use Rattle.leveldb_table.specs.TableReaderWalk.{current_of, table_position}
use Rattle.leveldb_table.proofs.BlockCacheLemmas.{GainsBlocks-refl}
use Rattle.leveldb_table.proofs.TableBlockLemmas.{KeepsDisk-refl, reads_ends, reads_passed, reads_weaker, reads_refused}
use Rattle.leveldb_table.proofs.TableReaderWalkLemmas.{ok_says, found_by}
use Rattle.leveldb_table.proofs.TableReaderMovesLemmas.{looked_along, looks_up_err, found_says, found_fails, found_refused}
use Rattle.leveldb_table.proofs.table_reader.reader.TableReader.find.Goals as goal

pub returns-in_err-core-clause-looks_up : goal.returns-in_err-core-clause-looks_up
returns-in_err-core-clause-looks_up g c =
    let found = found_with c.with_key_buffers.new.key_buffers c.from_residual.result in
    let refused = found_refused _ c.with_key_buffers.new.key_buffers c.from_residual.result c.from_residual.ensures.1 in
    looks_up_err _ found refused
    (reads_passed g.E.Env found (KeepsDisk-refl g.E.Env c.args.self.now.env.now) refl refused (inl c.in_err-core.ensures.memory))
    (GainsBlocks-refl _ _ _)

pub returns-in_err-seek_filtered-clause-looks_up : goal.returns-in_err-seek_filtered-clause-looks_up
returns-in_err-seek_filtered-clause-looks_up g c =
    let made = c.in_ok-core.ensures.ok in
    let passes = may_contain g.FP.FilterPolicy.matches c.args.self.now.table.now in
    let found = found_with c.with_key_buffers.new.key_buffers c.from_residual-in_err-seek_filtered.result in
    let refused = found_refused _ c.with_key_buffers.new.key_buffers c.from_residual-in_err-seek_filtered.result c.from_residual-in_err-seek_filtered.ensures.1 in
    looks_up_err _ found refused
    (reads_refused g.E.Env found refused
    (reads_weaker g.E.Env _ (λ status lacks. (
      lacks.0,
      λ bytes has. (
        λ parts lines ordered right fit holds. (lacks.1 bytes has).0 parts (let_position (g.C.Cmp.cmp c.args.self.now.table.now.cmp) passes c.args.key.now parts) right (fit, refl) holds
            (record { lines = made.lines ∙ lines; ordered = ap g.C.Cmp.cmp made.ordered ∙ ordered }),
        λ holds. looked_along g.C.Cmp ((TheImpl.ghosts g.dyn-1).codings c.args.self.now.compressors.now) (g.C.Cmp.cmp c.args.self.now.table.now.cmp) bytes passes c.args.key.now c.in_ok-core.core (Err status) made.lines (ap g.C.Cmp.cmp made.ordered) ((lacks.1 bytes has).1 holds),
      ),
    )) c.in_err-seek_filtered.ensures.enters.reads))
    c.in_err-seek_filtered.ensures.enters.gathers

pub returns-clause-looks_up : goal.returns-clause-looks_up
returns-clause-looks_up g c =
    let made = c.in_ok-core.ensures.ok in
    let passes = may_contain g.FP.FilterPolicy.matches c.args.self.now.table.now in
    let core = c.seek_filtered.new.self in
    let enters = c.in_ok-seek_filtered.ensures.enters in
    let found = found_with c.into_value.new.key_buffers c.into_value.result in
    let is = found_says (λ pair. pair ≡ current_of core) c.into_value.new.key_buffers c.into_value.result c.into_value.ensures.ok in
    record {
      reads = reads_ends g.E.Env found enters.reads.kept_disk enters.reads.cause.ok
          (IfErr-weaker found _ _ (λ status memory. inl memory) (found_fails _ c.into_value.new.key_buffers c.into_value.result c.into_value.ensures.cause));
      ok = λ bytes has parts lines ordered right fit holds. ok_says found
          (λ pair same. same ∙ found_by passes c.args.key.now core
          (enters.ok bytes has parts (let_position (g.C.Cmp.cmp c.args.self.now.table.now.cmp) passes c.args.key.now parts) right (fit, refl) holds
          (record { lines = made.lines ∙ lines; ordered = ap g.C.Cmp.cmp made.ordered ∙ ordered }))) is;
      finds = λ bytes has holds. ok_says found (λ pair same. record {
        position = table_position core;
        look_up = looked_along g.C.Cmp ((TheImpl.ghosts g.dyn-1).codings c.args.self.now.compressors.now) (g.C.Cmp.cmp c.args.self.now.table.now.cmp) bytes passes c.args.key.now c.in_ok-core.core (Ok (table_position core)) made.lines (ap g.C.Cmp.cmp made.ordered) (enters.steps bytes has holds);
        is = same;
      }) is;
      gathers = enters.gathers;
    }
