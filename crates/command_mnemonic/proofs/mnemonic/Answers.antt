-- The numbers of the entropy, which is the whole supply, are the reply.
-- Assumes nothing.
use mathlib.Core.Path.{sym}
use Rattle.command_mnemonic.proofs.Phrases.{entropy-long, entropy-fits, numbers-replies}
use Rattle.rules.specs.Rows.{checksum_bits}
use Rattle.command_mnemonic.proofs.mnemonic.Goals as goal

pub slice_bounds-entropy-end : goal.slice_bounds-entropy-end
slice_bounds-entropy-end c =
    sym (entropy-long c.args.which c.args.supply.now c.entropy_bytes-end.result c.requires.0 c.entropy_bytes-end.ensures)

pub put_numbers-count-requires : goal.put_numbers-count-requires
put_numbers-count-requires c =
    let f = entropy-fits c.args.which c.args.supply.now c.entropy_bytes-end.result c.requires.0 c.entropy_bytes-end.ensures c.requires.1 in
    record { entropy_len_bound = f.0; entropy_len = f.1.0; entropy_in_bounds = f.1.1 }

pub returns : goal.returns
returns c =
    numbers-replies c.args.card (checksum_bits c.args.which) c.entropy_bytes-end.result c.put_numbers-count.result c.args.supply.now
    c.entropy_bytes-end.ensures c.put_numbers-count.ensures c.replied.ensures
