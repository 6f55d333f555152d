-- No line that is written has a float. For `write_out`: `no_float_in_note`, `no_float_in_answer` with those of its
-- lists, and `no_float_in_message`; for `write_talk`: `no_float_in_talk`; for `write_record`: `no_float_in_record`; for
-- `write_figures`: `no_float_in_figures`; for the lines of an opening: `no_float_in_header` and
-- `no_float_in_first_value`; for `write_mark`: `no_float_in_mark`.
use Rattle.std.proofs.Common.{◌≡◌, ℕ, List, [], ◌∷◌, map, false, Some, None, Option, Result, IfOk, refl, ap, ◌∙◌}
use Rattle.std.proofs.lemmas.Result.{IfOk-weaker}
use Rattle.serde_json.specs.Data.{Data}
use Rattle.serde_json.specs.Written.{has_float, items_have_float}
use Rattle.serde_json.specs.View.{view, items_of}
use Rattle.serde_json.specs.declared.value.Value.{Value as JsonValue}
use Rattle.album_calls.specs.declared.messages.Message.{Message}
use Rattle.album_calls.specs.declared.messages.Body.{Body}
use Rattle.album_calls.specs.declared.messages.Body.TheVariants as body
use Rattle.album_calls.specs.declared.replies.Reply.{Reply}
use Rattle.album_calls.specs.declared.replies.Reply.TheVariants as reply
use Rattle.album_calls.specs.declared.requests.Request.{Request}
use Rattle.album_calls.specs.declared.requests.Request.TheVariants as request
use Rattle.album_items.specs.declared.values.Value.{Value}
use Rattle.album_items.specs.declared.values.Value.TheVariants as value
use Rattle.album_lists.specs.declared.lists.Ace.{Ace}
use Rattle.album_lists.specs.declared.whos.Member.{Member}
use Rattle.album_eval.specs.declared.facts.Principal.{Principal}
use Rattle.album_eval.specs.declared.verdicts.Verdict.{Verdict}
use Rattle.album_eval.specs.declared.verdicts.Verdict.TheVariants as verdict
use Rattle.album_listing.specs.declared.reasons.Reason.{Reason}
use Rattle.album_listing.specs.declared.rows.Row.{Row}
use Rattle.album_permits.specs.declared.attributes.Attributes.{Attributes}
use Rattle.album_permits.specs.declared.attributes.Attributes.TheVariants as attributes
use Rattle.album_permits.specs.declared.notes.Note.{Note}
use Rattle.album_permits.specs.declared.serving.Served.{Served}
use Rattle.album_permits.specs.declared.serving.Served.TheVariants as served
use Rattle.album_permits.specs.declared.answers.Answer.{Answer}
use Rattle.album_permits.specs.declared.answers.Answer.TheVariants as answer
use Rattle.album_lines.specs.Spelling.{whole_data}
use Rattle.album_wire.specs.ValueJson.{item_json, entry_json, member_json, home_json, value_json}
use Rattle.album_wire.specs.MessageJson.{write_json, request_json, reply_json, message_json}
use Rattle.album_wire.specs.MarkLine.{mark_json}
use Rattle.album_wire.specs.OpeningJson.{opening_json}
use Rattle.album_wire.specs.declared.opening_line.OpeningLine.TheVariants as opening
use Rattle.album_wire.specs.declared.opening_shape.Header.{Header}
use Rattle.album_wire.specs.RecordJson.{record_json}
use Rattle.album_wire.specs.ServedJson.{row_json, group_served, entries_served, listed_json, head_json, children_json, served_json}
use Rattle.album_wire.specs.OutJson.{note_json, at_json, reason_json, denied_json, answer_json}
use Rattle.album_wire.specs.TalkJson.{talk_json}
use Rattle.album_wire.specs.FiguresJson.{marks_json, figures_json}
use Rattle.album_wire.specs.declared.figures_json.ServiceFigures.{ServiceFigures}
use Rattle.album_partition.specs.declared.figures.Figures.{Figures}
use Rattle.album_wire.specs.declared.message_json.Envelope.{Envelope}
use Rattle.album_wire.specs.declared.talk_json.TalkOut.{TalkOut}
use Rattle.album_wire.specs.declared.talk_json.TalkOut.TheVariants as talk

in_list : {A : Type 0} (f : A → Data) → ((x : A) → has_float (f x) ≡ false) → (xs : List A)
    → items_have_float (items_of (map f xs)) ≡ false
in_list f none [] = refl
in_list f none (x ∷ xs) = rw (none x, in_list f none xs) refl

in_items : (items : List ℕ) → items_have_float (items_of (map item_json items)) ≡ false
in_items items = in_list item_json (λ i. refl) items

in_entries : (entries : List Ace) → items_have_float (items_of (map entry_json entries)) ≡ false
in_entries entries = in_list entry_json (λ e. refl) entries

in_members : (members : List Member) → items_have_float (items_of (map member_json members)) ≡ false
in_members members = in_list member_json (λ m. refl) members

in_home : (home : Option ℕ) → has_float (home_json home) ≡ false
in_home None = refl
in_home (Some number) = refl

in_value : (v : Value) → has_float (value_json v) ≡ false
in_value value.Missing = refl
in_value (value.Picture picture) = refl
in_value (value.Album album) = rw (in_items album.children, in_home album.home) refl
in_value (value.List entries) = rw (in_entries entries) refl
in_value (value.Group group) = rw (in_members group.members) refl

in_write : (row : ℕ × Value) → has_float (write_json row) ≡ false
in_write row = rw (in_value row.1) refl

in_request : (e : Envelope) (r : Request) → has_float (request_json e r) ≡ false
in_request e (request.Prepare stamp writes items) = rw (in_list write_json in_write writes, in_items items) refl
in_request e (request.PrepareOn stamp writes items bases) =
    rw (in_list write_json in_write writes, in_items items, in_list whole_data (λ s. refl) bases) refl
in_request e (request.Commit stamp) = refl
in_request e (request.Get item stamps) = rw (in_list whole_data (λ s. refl) stamps) refl
in_request e (request.Check stamp) = refl

in_reply : (e : Envelope) (r : Reply) → has_float (reply_json e r) ≡ false
in_reply e (reply.Prepared stamp) = refl
in_reply e (reply.Committed stamp) = refl
in_reply e (reply.Discarded stamp) = refl
in_reply e (reply.Version item stamp value) = rw (in_value value) refl
in_reply e (reply.Status stamp vote) = refl
in_reply e (reply.NotPrepared stamp) = refl
in_reply e reply.Clash = refl
in_reply e (reply.Full stamp) = refl
in_reply e (reply.Gone item) = refl

-- what is made without a float has none, if it is made
pub no_float_if_ok : {E : Type 0} (r : Result JsonValue E) (d : Data) → has_float d ≡ false
    → IfOk r (λ v. view v ≡ d) → IfOk r (λ v. has_float (view v) ≡ false)
no_float_if_ok r d without = IfOk-weaker r (λ v. view v ≡ d) (λ v. has_float (view v) ≡ false) (λ v e. ap has_float e ∙ without)

pub no_float_in_message : (number : ℕ) (m : Message) → has_float (message_json number m) ≡ false
no_float_in_message number m = go m.body
  where
    go : (b : Body) → has_float (message_json number (record m { body = b })) ≡ false
    go (body.Request r) = in_request _ r
    go (body.Reply r) = in_reply _ r

pub no_float_in_header : (header : Header) → has_float (opening_json (opening.Open header)) ≡ false
no_float_in_header header = go header.root
  where
    go : (root : Option (List ℕ)) → has_float (opening_json (opening.Open (record header { root = root }))) ≡ false
    go None = refl
    go (Some name) = refl

pub no_float_in_first_value : (item stamp : ℕ) (value : Value)
    → has_float (opening_json (opening.Item item stamp value)) ≡ false
no_float_in_first_value item stamp value = rw (in_value value) refl

pub no_float_in_mark : (part stamp : ℕ) (writes : List (ℕ × Value)) (items : List ℕ)
    → has_float (mark_json part stamp writes items) ≡ false
no_float_in_mark part stamp writes items = rw (in_items items, in_list write_json in_write writes) refl

pub no_float_in_record : (client : ℕ) (who : Principal) (note : Note) → has_float (record_json client who note) ≡ false
no_float_in_record client who note = refl

pub no_float_in_note : (client : ℕ) (note : Note) → has_float (note_json client note) ≡ false
no_float_in_note client note = refl

in_row : (row : Row) → has_float (row_json row) ≡ false
in_row row = refl

in_at : (v : Verdict) → has_float (at_json v) ≡ false
in_at verdict.Granted = refl
in_at (verdict.DeniedBy index) = refl
in_at verdict.DeniedAtEnd = refl

in_reason : (reason : Reason) → has_float (reason_json reason) ≡ false
in_reason reason = rw (in_at reason.verdict) refl

pub no_float_in_group : (client object stamp : ℕ) (members : List Member) → has_float (group_served client object stamp members) ≡ false
no_float_in_group client object stamp members = rw (in_members members) refl

pub no_float_in_entries : (client object stamp : ℕ) (entries : List Ace) → has_float (entries_served client object stamp entries) ≡ false
no_float_in_entries client object stamp entries = rw (in_entries entries) refl

pub no_float_in_rows : (client album stamp : ℕ) (rows : List Row) → has_float (listed_json client album stamp rows) ≡ false
no_float_in_rows client album stamp rows = rw (in_list row_json in_row rows) refl

pub no_float_in_head : (client object stamp : ℕ) (a : Attributes) → has_float (head_json client object stamp a) ≡ false
no_float_in_head client object stamp attributes.Nothing = refl
no_float_in_head client object stamp (attributes.Picture head title home) = refl
no_float_in_head client object stamp (attributes.Album head title home count) = rw (in_home home) refl
no_float_in_head client object stamp (attributes.Group head count) = refl

pub no_float_in_children : (client album stamp : ℕ) (children : List ℕ) → has_float (children_json client album stamp children) ≡ false
no_float_in_children client album stamp children = rw (in_items children) refl

pub no_float_in_reasons : (client : ℕ) (reasons : List Reason) → has_float (denied_json client reasons) ≡ false
no_float_in_reasons client reasons = rw (in_list reason_json in_reason reasons) refl

in_served : (client : ℕ) (s : Served) → has_float (served_json client s) ≡ false
in_served client (served.Picture object stamp title content) = refl
in_served client (served.Group object stamp members) = no_float_in_group client object stamp members
in_served client (served.Entries object of stamp entries) = no_float_in_entries client object stamp entries
in_served client (served.Listed album stamp rows) = no_float_in_rows client album stamp rows
in_served client (served.Head object stamp attributes) = no_float_in_head client object stamp attributes
in_served client (served.Children album stamp children) = no_float_in_children client album stamp children

pub no_float_in_answer : (client : ℕ) (a : Answer) → has_float (answer_json client a) ≡ false
no_float_in_answer client (answer.Served served) = in_served client served
no_float_in_answer client (answer.Denied reasons) = no_float_in_reasons client reasons
no_float_in_answer client (answer.Missing object) = refl
no_float_in_answer client (answer.Busy why) = refl
no_float_in_answer client (answer.Committed stamp) = refl
no_float_in_answer client (answer.Aborted stamp) = refl
no_float_in_answer client (answer.Unsettled stamp refusal) = refl
no_float_in_answer client (answer.Refused refusal) = refl

pub no_float_in_talk : (told : TalkOut) → has_float (talk_json told) ≡ false
no_float_in_talk (talk.Hello client) = refl
no_float_in_talk (talk.HelloIn client epoch) = refl
no_float_in_talk (talk.Pending stamps) = rw (in_list whole_data (λ s. refl) stamps.items) refl
no_float_in_talk talk.Swept = refl
no_float_in_talk talk.Trimmed = refl
no_float_in_talk (talk.Dump lines) = refl
no_float_in_talk (talk.Serving port) = refl
no_float_in_talk (talk.Restarted epoch) = refl
no_float_in_talk (talk.Totals audits alarms) = refl

in_marks : (part : Figures) → has_float (marks_json part) ≡ false
in_marks part = refl

pub no_float_in_figures : (figures : ServiceFigures) → has_float (figures_json figures) ≡ false
no_float_in_figures figures =
    rw (
      in_list marks_json in_marks figures.parts.items,
      in_list (λ part. whole_data part.pending) (λ part. refl) figures.parts.items,
      in_list (λ part. whole_data part.versions) (λ part. refl) figures.parts.items,
    ) refl
