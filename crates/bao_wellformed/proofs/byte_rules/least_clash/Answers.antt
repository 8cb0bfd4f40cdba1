use Rattle.bao_wellformed.specs.ByteRules.{bounds_of, is_clash, kind_in}
use Rattle.bao_wellformed.proofs.Walks.{two_walks}
use Rattle.bao_wellformed.proofs.byte_rules.least_clash.Goals as goal

pub returns : goal.returns
returns c =
    two_walks (λ at. is_clash (kind_in c.args.ones.now at) (kind_in c.args.others.now at)) c.tried-found.result c.tried_bounds-found.result
    c.tried_bounds.result (bounds_of c.args.ones.now) (bounds_of c.args.others.now) c.tried-found.ensures c.tried_bounds-found.ensures
    c.tried_bounds.ensures
