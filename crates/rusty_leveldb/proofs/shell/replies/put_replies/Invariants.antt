use Rattle.std.proofs.Common.{◌≡◌, ◌++◌, take}
use Rattle.rusty_leveldb.specs.Programs.Language.{reply_lines}
use Rattle.rusty_leveldb.proofs.shell.replies.put_replies.Given as goal

abbrev pub invariant-loop-reply : goal.invariant-loop-reply
invariant-loop-reply l = l.out.items ≡ l.fn.out.items ++ reply_lines (take l.reply-index l.replies)
