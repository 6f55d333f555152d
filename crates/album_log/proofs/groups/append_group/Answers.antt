-- What a crash leaves, whichever step fails: the old text until the group is written, and then lines of it too.
use Rattle.album_log.proofs.LogLemmas.{leaves_text_durable, leaves_kept_old}
use Rattle.album_log.proofs.groups.append_group.Goals as goal

pub returns-in_err-next-clause-crash : goal.returns-in_err-next-clause-crash
returns-in_err-next-clause-crash g c mixing text end durable =
    leaves_kept_old text _ c.args.size _ (leaves_text_durable text _ _ _ durable)

pub returns-in_err-extend-clause-crash : goal.returns-in_err-extend-clause-crash
returns-in_err-extend-clause-crash g c mixing text end durable =
    leaves_kept_old text _ c.args.size _ (c.extend.ensures.crash text (leaves_text_durable text _ _ _ durable))

pub returns-in_err-still_mixes-clause-crash : goal.returns-in_err-still_mixes-clause-crash
returns-in_err-still_mixes-clause-crash g c mixing text end durable =
    leaves_kept_old text _ c.args.size _ (c.extend.ensures.crash text (leaves_text_durable text _ _ _ durable))

pub returns-in_err-put-clause-crash : goal.returns-in_err-put-clause-crash
returns-in_err-put-clause-crash g c mixing text end durable =
    let ready = c.in_ok-extend.ensures in
    let next = c.in_ok-next.next in
    c.put.ensures.crash (c.in_ok-still_mixes.ensures.mixes mixing) text next end c.in_ok-next.ensures.room c.in_ok-next.ensures.fits
    (leaves_text_durable text next _ _ (record { stands = ready.text text durable.stands; only = ready.only durable.only }))

pub returns-clause-text : goal.returns-clause-text
returns-clause-text g c text end durable = record {
  stands = c.in_ok-put.ensures.text text c.in_ok-next.next end c.in_ok-next.ensures.room (c.in_ok-extend.ensures.text text durable.stands);
  only = c.in_ok-put.ensures.only;
}

pub returns-clause-crash : goal.returns-clause-crash
returns-clause-crash g c mixing text end durable =
    let ready = c.in_ok-extend.ensures in
    let next = c.in_ok-next.next in
    c.put.ensures.crash (c.in_ok-still_mixes.ensures.mixes mixing) text next end c.in_ok-next.ensures.room c.in_ok-next.ensures.fits
    (leaves_text_durable text next _ _ (record { stands = ready.text text durable.stands; only = ready.only durable.only }))
