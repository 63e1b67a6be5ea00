use Rattle.std.proofs.Common.{append-nil, ap, sym, ◌++◌, ◌∙◌, [], map}
use Rattle.serve_downlinks.specs.Downlinks.{to_send, with_first}
use Rattle.serve_downlinks.proofs.Found.{found_more}
use Rattle.serve_downlinks.proofs.downlink.add_first.Goals as goal

pub returns-in-None : goal.returns-in-None
returns-in-None g c =
    sym (append-nil (map to_send c.args.found.now.items))
    ∙ ap (λ o. map to_send c.args.found.now.items ++ with_first o []) c.in-None.ensures

pub returns-in_ok-push-in-Some : goal.returns-in_ok-push-in-Some
returns-in_ok-push-in-Some g c =
    found_more c.args.found.now.items c.push.new.self.items c.in-Some.downlink _ c.in_ok-push-in-Some.ensures.items c.in-Some.ensures
