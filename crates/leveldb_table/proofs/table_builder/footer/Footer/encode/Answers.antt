use Rattle.leveldb_table.proofs.FooterLemmas.{writes_footer}
use Rattle.leveldb_table.proofs.table_builder.footer.Footer.encode.Goals as goal

pub returns : goal.returns
returns c =
    writes_footer c.args.self.now.meta_index c.args.self.now.index c.args.to.now c.encode_to-first.new.dst c.encode_to.new.dst c.encode_to-first.result c.encode_to.result
    c.requires c.encode_to-first.ensures.short c.encode_to.ensures.short c.encode_to-first.ensures.used c.encode_to.ensures.used c.encode_to-first.ensures.written c.encode_to.ensures.written
    c.fill.new.self c.copy_from_slice.new.self (c.fill.ensures.after (λ y e. e)) c.copy_from_slice.ensures.after
