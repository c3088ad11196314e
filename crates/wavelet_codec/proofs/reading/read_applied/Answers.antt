use Rattle.std.proofs.Common.{arith}
use Rattle.wavelet_codec.proofs.Deltas.{is_delta, has_bytes, has_hash, read_again, is_refused}
use Rattle.wavelet_codec.proofs.reading.read_applied.Goals as goal

pub returns-clause-is : goal.returns-clause-is
returns-clause-is c = is_delta c.args.hash.now c.args.bytes.now (λ i. omega (arith, c.type_inv.bytes i)) c.delta_at.result c.delta_at.ensures

pub returns-clause-bytes : goal.returns-clause-bytes
returns-clause-bytes c = has_bytes c.args.hash.now c.args.bytes.now (λ i. omega (arith, c.type_inv.bytes i)) c.delta_at.result c.delta_at.ensures

pub returns-clause-hash : goal.returns-clause-hash
returns-clause-hash c = has_hash c.args.hash.now c.args.bytes.now (λ i. omega (arith, c.type_inv.bytes i)) c.delta_at.result c.delta_at.ensures

pub returns-clause-again : goal.returns-clause-again
returns-clause-again c = λ d h at is. read_again c.args.hash.now c.args.bytes.now (λ i. omega (arith, c.type_inv.bytes i)) d h at is c.delta_at.result c.delta_at.ensures

pub returns-clause-refused : goal.returns-clause-refused
returns-clause-refused c = is_refused c.args.hash.now c.args.bytes.now (λ i. omega (arith, c.type_inv.bytes i)) c.delta_at.result c.delta_at.ensures
