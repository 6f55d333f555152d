use Rattle.std.proofs.Common.{◌∙◌, ap, sym}
use Rattle.std.specs.List.{position}
use Rattle.album_permits.proofs.Putting.{is_of, put-found, put-last}
use Rattle.album_permits.proofs.merging.put.Goals as goal

pub returns-in-Some : goal.returns-in-Some
returns-in-Some c =
    sym (put-found c.args.writes.now.items c.args.write c.in-Some.index
    (sym (c.in-Some.ensures ∙ ap (position (is_of c.args.write.0)) c.as_slice.ensures.value)))

pub returns-in_ok-push-in-None : goal.returns-in_ok-push-in-None
returns-in_ok-push-in-None c =
    c.in_ok-push-in-None.ensures.items
    ∙ sym (put-last c.args.writes.now.items c.args.write
    (sym (c.in-None.ensures ∙ ap (position (is_of c.args.write.0)) c.as_slice.ensures.value)))
