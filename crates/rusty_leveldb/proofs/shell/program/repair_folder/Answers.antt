use Rattle.std.proofs.Common.{rules}
use Rattle.rusty_leveldb.proofs.Programs.Answering.{asks_so, default_compresses, default_fits}
use Rattle.rusty_leveldb.proofs.Repairs.RepairingFolderLemmas.{chooses_so, repaired_folder}
use Rattle.rusty_leveldb.proofs.shell.program.repair_folder.Goals as goal

pub returns-in_err-repair-clause-repaired : goal.returns-in_err-repair-clause-repaired
returns-in_err-repair-clause-repaired g c = (
  _,
  repaired_folder _ g.E.Env c.args.folder.now _ c.args.env.now c.repair.new.env _
      (chooses_so c.default-options.ensures.compressors c.default-options.ensures.filters c.default-options.ensures.choices.compressor c.default-options.ensures.choices.block c.default-options.ensures.choices.restart_interval)
      (asks_so c.default-options.ensures.compressors c.default-options.ensures.create c.default-options.ensures.choices.no_error (default_fits c.default-options.ensures.choices) (default_compresses c.default-options.ensures.compressors c.default-options.ensures.choices.compressor))
      c.in_err-repair.ensures,
)

pub returns-in_err-write_all-clause-repaired : goal.returns-in_err-write_all-clause-repaired
returns-in_err-write_all-clause-repaired g c = (
  _,
  repaired_folder _ g.E.Env c.args.folder.now _ c.args.env.now c.repair.new.env _
      (chooses_so c.default-options.ensures.compressors c.default-options.ensures.filters c.default-options.ensures.choices.compressor c.default-options.ensures.choices.block c.default-options.ensures.choices.restart_interval)
      (asks_so c.default-options.ensures.compressors c.default-options.ensures.create c.default-options.ensures.choices.no_error (default_fits c.default-options.ensures.choices) (default_compresses c.default-options.ensures.compressors c.default-options.ensures.choices.compressor))
      c.in_ok-repair.ensures,
)

pub returns-in_err-flush-clause-repaired : goal.returns-in_err-flush-clause-repaired
returns-in_err-flush-clause-repaired g c = (
  _,
  repaired_folder _ g.E.Env c.args.folder.now _ c.args.env.now c.repair.new.env _
      (chooses_so c.default-options.ensures.compressors c.default-options.ensures.filters c.default-options.ensures.choices.compressor c.default-options.ensures.choices.block c.default-options.ensures.choices.restart_interval)
      (asks_so c.default-options.ensures.compressors c.default-options.ensures.create c.default-options.ensures.choices.no_error (default_fits c.default-options.ensures.choices) (default_compresses c.default-options.ensures.compressors c.default-options.ensures.choices.compressor))
      c.in_ok-repair.ensures,
)

pub returns-clause-repaired : goal.returns-clause-repaired
returns-clause-repaired g c = (
  _,
  repaired_folder _ g.E.Env c.args.folder.now _ c.args.env.now c.repair.new.env _
      (chooses_so c.default-options.ensures.compressors c.default-options.ensures.filters c.default-options.ensures.choices.compressor c.default-options.ensures.choices.block c.default-options.ensures.choices.restart_interval)
      (asks_so c.default-options.ensures.compressors c.default-options.ensures.create c.default-options.ensures.choices.no_error (default_fits c.default-options.ensures.choices) (default_compresses c.default-options.ensures.compressors c.default-options.ensures.choices.compressor))
      c.in_ok-repair.ensures,
)

pub returns-clause-answered : goal.returns-clause-answered
returns-clause-answered g c = (
  repaired_folder _ g.E.Env c.args.folder.now _ c.args.env.now c.repair.new.env _
      (chooses_so c.default-options.ensures.compressors c.default-options.ensures.filters c.default-options.ensures.choices.compressor c.default-options.ensures.choices.block c.default-options.ensures.choices.restart_interval)
      (asks_so c.default-options.ensures.compressors c.default-options.ensures.create c.default-options.ensures.choices.no_error (default_fits c.default-options.ensures.choices) (default_compresses c.default-options.ensures.compressors c.default-options.ensures.choices.compressor))
      c.in_ok-repair.ensures,
  search rules,
)
