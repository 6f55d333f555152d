-- Answers as they are shown: of a version that an epoch before wrote the stamp at which it did, in the place of 0.
use Rattle.std.specs.Prelude.{ℕ}
use Rattle.album_items.specs.FirstStamps.{Stamps, shown}
use Rattle.album_permits.specs.declared.answers.Answer.{Answer}
use Rattle.album_permits.specs.declared.answers.Answer.TheVariants as answer
use Rattle.album_permits.specs.declared.outs.Out.{Out}
use Rattle.album_permits.specs.declared.outs.Out.TheVariants as out
use Rattle.album_permits.specs.declared.serving.Served.{Served}
use Rattle.album_permits.specs.declared.serving.Served.TheVariants as served

-- the stamp is that of the object, or of its list where entries are served
abbrev pub stamp_shown : Stamps → Served → ℕ
stamp_shown stamps (served.Picture object stamp title content) = shown stamps object stamp
stamp_shown stamps (served.Group object stamp members) = shown stamps object stamp
stamp_shown stamps (served.Entries object of stamp entries) = shown stamps of stamp
stamp_shown stamps (served.Listed album stamp rows) = shown stamps album stamp
stamp_shown stamps (served.Head object stamp attributes) = shown stamps object stamp
stamp_shown stamps (served.Children album stamp children) = shown stamps album stamp

-- the same that is served, at this stamp
abbrev pub served_shown : Stamps → Served → Served
served_shown stamps (served.Picture object stamp title content) =
    served.Picture object (shown stamps object stamp) title content
served_shown stamps (served.Group object stamp members) = served.Group object (shown stamps object stamp) members
served_shown stamps (served.Entries object of stamp entries) = served.Entries object of (shown stamps of stamp) entries
served_shown stamps (served.Listed album stamp rows) = served.Listed album (shown stamps album stamp) rows
served_shown stamps (served.Head object stamp attributes) = served.Head object (shown stamps object stamp) attributes
served_shown stamps (served.Children album stamp children) =
    served.Children album (shown stamps album stamp) children

-- no other answer has the stamp of a version that was read
abbrev pub answer_shown : Stamps → Answer → Answer
answer_shown stamps (answer.Served given) = answer.Served (served_shown stamps given)
answer_shown stamps (answer.Denied reasons) = answer.Denied reasons
answer_shown stamps (answer.Missing object) = answer.Missing object
answer_shown stamps (answer.Busy why) = answer.Busy why
answer_shown stamps (answer.Committed stamp) = answer.Committed stamp
answer_shown stamps (answer.Aborted stamp) = answer.Aborted stamp
answer_shown stamps (answer.Unsettled stamp refusal) = answer.Unsettled stamp refusal
answer_shown stamps (answer.Refused refusal) = answer.Refused refusal

abbrev pub out_shown : Stamps → Out → Out
out_shown stamps (out.Sent number) = out.Sent number
out_shown stamps (out.Noted client note) = out.Noted client note
out_shown stamps (out.Answered client given) = out.Answered client (answer_shown stamps given)
