use Rattle.std.proofs.Common.{refl, ⊎_elim}
use Rattle.rusty_leveldb.proofs.Programs.Answering.{asks_so, default_compresses, default_fits, has_played, played, still_default}
use Rattle.rusty_leveldb.proofs.Repairs.RepairingFolderLemmas.{chooses_so}
use Rattle.rusty_leveldb.proofs.shell.program.play.Goals as goal

pub returns-clause-played : goal.returns-clause-played
returns-clause-played g c =
    let defaults = c.default-options.ensures in
    played g.E.Env c.args.log c.args.way c.args.folder.now c.args.commands.now c.args.env.now
    c.run_by-played.new.env (g.O.Write.contents c.args.out.now)
    (g.O.Write.contents c.print-printed.new.out) c.new-replies.result.items
    c.run_by-played.new.replies.items c.deref.result.now c.in_ok-played.field-0
    c.print-printed.result c.new-replies.ensures.items c.deref.ensures.value
    (has_played _ (⊎_elim (λ never. never) (λ never. never)) g.E.Env c.args.log _ _ _
    c.args.folder.now c.args.commands.now c.args.env.now c.run_by-played.new.env _ _ (g.met.E.Env.only_now, g.met.E.Env.counts_now) c.args.way
    c.in_ok-played.ensures.runs c.in_ok-played.ensures.calls (record {
      log_is = refl;
      defaults = still_default defaults.choices;
      tables = λ now. chooses_so defaults.compressors defaults.filters
          defaults.choices.compressor defaults.choices.block defaults.choices.restart_interval;
    }) (asks_so defaults.compressors defaults.create defaults.choices.no_error
    (default_fits defaults.choices)
    (default_compresses defaults.compressors defaults.choices.compressor)))
    c.in_ok-played.ensures.after c.print-printed.ensures

pub returns-clause-run : goal.returns-clause-run
returns-clause-run g c =
    let defaults = c.default-options.ensures in (
      _,
      c.run_by-played.result,
      has_played _ (⊎_elim (λ never. never) (λ never. never)) g.E.Env c.args.log _ _ _
          c.args.folder.now c.args.commands.now c.args.env.now c.run_by-played.new.env _ _
          (g.met.E.Env.only_now, g.met.E.Env.counts_now) c.args.way c.run_by-played.ensures.runs c.run_by-played.ensures.calls (record {
            log_is = refl;
            defaults = still_default defaults.choices;
            tables = λ now. chooses_so defaults.compressors defaults.filters
                defaults.choices.compressor defaults.choices.block
                defaults.choices.restart_interval;
          }) (asks_so defaults.compressors defaults.create defaults.choices.no_error
          (default_fits defaults.choices)
          (default_compresses defaults.compressors defaults.choices.compressor)),
    )

pub returns-in_err-played-clause-run : goal.returns-in_err-played-clause-run
returns-in_err-played-clause-run g c =
    let defaults = c.default-options.ensures in (
      _,
      c.run_by-played.result,
      has_played _ (⊎_elim (λ never. never) (λ never. never)) g.E.Env c.args.log _ _ _
          c.args.folder.now c.args.commands.now c.args.env.now c.run_by-played.new.env _ _
          (g.met.E.Env.only_now, g.met.E.Env.counts_now) c.args.way c.run_by-played.ensures.runs c.run_by-played.ensures.calls (record {
            log_is = refl;
            defaults = still_default defaults.choices;
            tables = λ now. chooses_so defaults.compressors defaults.filters
                defaults.choices.compressor defaults.choices.block
                defaults.choices.restart_interval;
          }) (asks_so defaults.compressors defaults.create defaults.choices.no_error
          (default_fits defaults.choices)
          (default_compresses defaults.compressors defaults.choices.compressor)),
    )
