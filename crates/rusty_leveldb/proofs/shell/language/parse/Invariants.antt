use Rattle.std.proofs.Common.{length}
use Rattle.std.specs.Prelude.{All}
use Rattle.rusty_leveldb.specs.Programs.Language.{HasBytes}
use Rattle.rusty_leveldb.proofs.Programs.Lines.{IsRead}
use Rattle.rusty_leveldb.proofs.shell.language.parse.Given as goal

abbrev pub invariant-loop-rest : goal.invariant-loop-rest
invariant-loop-rest l = record {
  bytes : All HasBytes l.commands.items;
  is_read : IsRead l.fn.text l.commands.items l.rest;
}

abbrev pub decreases-loop-rest : goal.decreases-loop-rest
decreases-loop-rest l = length l.rest
