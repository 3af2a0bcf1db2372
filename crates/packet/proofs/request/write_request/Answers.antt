use Rattle.std.proofs.Common.{◌≡◌, Ok, rules}
use Rattle.packet.specs.Requests.{read_request, request_bytes, request_parts}
use Rattle.packet.proofs.Trips.{requests-read-back}
use Rattle.packet.proofs.Writes.{written-as}
use Rattle.packet.proofs.request.write_request.Goals as goal

pub returns-clause-reads : goal.returns-clause-reads
returns-clause-reads c =
    let q = request_parts c.args.request in
    λ mode own h. written-as (λ l. read_request mode own l ≡ Ok q) (request_bytes q) c.args.out.now _ _ (search rules)
    (search rules) (requests-read-back mode own q h)
