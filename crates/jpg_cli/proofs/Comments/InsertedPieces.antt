-- The pieces of an input into which a comment is inserted, over the states of a desk.
use Rattle.std.proofs.Common.{◌≡◌, ℕ, ◌<◌, ◌==◌, Bool, true, false, List, [], ◌++◌, length, Option, None, Some, Result, Ok, Err, refl, sym, ap, ◌∙◌, subst, arith, inl, inr}
use Rattle.jpg_base.specs.declared.names.Put.{Put}
use Rattle.jpg_base.specs.declared.names.Put.TheVariants as put
use Rattle.jpg_base.specs.Desk.{Creates, DeskState}
use Rattle.jpg_base.specs.declared.names.Name.{Name}
use Rattle.jpg_spec.specs.Segments.{standard_limits}
use Rattle.jpg_spec_words.specs.declared.answers.Why.{Why}
use Rattle.jpg_spec_words.specs.declared.answers.Why.TheVariants as why
use Rattle.jpg_spec_words.specs.declared.answers.Which.TheVariants as which
use Rattle.jpg_comments.specs.SegmentsSoFar.{Appends}
use Rattle.jpg_comments.specs.WriteInserted.{HasInserted}
use Rattle.jpg_comments.specs.declared.insert.Insert.{Insert}
use Rattle.jpg_desk.specs.Pump.{AfterFeed, BeforeEnd, BeforePiece, EndsAll, IsFed, ended_as}
use Rattle.jpg_desk.specs.Reading.{rest_of}
use Rattle.jpg_desk.specs.Stays.{OnlyWorks}
use Rattle.jpg_desk.proofs.Input.{none_left}
use Rattle.jpg_desk.proofs.PiecesRead.{reads_none, works_then}
use Rattle.jpg_dct.proofs.TableFronts.{none_of}
use Rattle.jpg_cli.specs.Tools.CommentInserted.{EndsInsertion, HoldsFor, Inserted, IsInserting, IsReading, IsTaskOf, Task, insert_kind}
use Rattle.jpg_cli.specs.Tools.InsertComment.{AfterAll, AfterFed, InsertsPiece, IsAtHead, WritesRest}
use Rattle.jpg_cli.specs.declared.tools.wrjpgcom.InsertSink.{InsertSink}
use Rattle.jpg_cli.proofs.Comments.CommentInserted.{AfterDue, ended_before, first_due, first_uncreated, later_due, reading_more, rest_ends, rest_unread, writing_still}
use Rattle.jpg_cli.proofs.Comments.HeadTaken.{ended, fed_at_head, fed_text, head_ends, head_unread, head_whole, nothing_there}
use Rattle.jpg_cli.proofs.Comments.InsertedCopied.{fed_short}

-- no text is pending
pub no_text : (out slice : List ℕ) (empty : Bool) → slice ≡ out → empty ≡ (length slice == 0) → empty ≡ true → out ≡ []
no_text out slice empty same is some = none_of out (grind (arith, same, is, some))

-- an output was created
pub creates_works : {a b : DeskState} {n : Name} {answer : Put} → Creates a n answer b → OnlyWorks a b
creates_works k = record { stays = record { counts = k.counts; files = k.files }; said = k.said }

-- by whether it was
holding : (task : Task) (comment bytes : List ℕ) (start : DeskState) (c : Insert) (now : DeskState) {a b : Bool} → a ≡ b → HoldsFor a task comment bytes start c now → HoldsFor b task comment bytes start c now
holding task comment bytes start c now is h = subst (λ (v : Bool). HoldsFor v task comment bytes start c now) is h

-- A PIECE

module _ {from : InsertSink × DeskState} {bytes piece : List ℕ} {old : InsertSink} {s1 : DeskState} (b : BeforePiece InsertSink insert_kind from bytes piece (old, s1)) (due : Result Bool Why) (out : List ℕ) (c : Insert) (limits : c.limits ≡ standard_limits) (same : c.replace ≡ old.insert.replace)
    (takes : InsertsPiece old.insert piece old.out due out c) where
  abbrev was : IsInserting from bytes (old, b.desk)
  was = b.fed.fed

  abbrev all : List ℕ
  all = bytes ++ piece

  -- what holds of the sink and the desk then
  pub record StaysAs (new : InsertSink) (s2 : DeskState) : Type 0 where
    pub insert : new.insert ≡ c
    pub output : new.output.now ≡ old.output.now
    pub empty : new.out ≡ []
    pub works : OnlyWorks s1 s2
    pub opened : s2.input_open ≡ s1.input_open
    pub created : new.created ≡ true → s2.output_created ≡ true

  module _ {task : Task} {comment : List ℕ} {start : DeskState} (t : IsTaskOf task comment start from) where
    replaces : old.insert.replace ≡ task.replace
    replaces = was.replace ∙ sym t.replace

    by_task : (text : List ℕ) → Appends (λ x. AfterFed comment old.insert.replace all x due c) text old.out out → Appends (λ x. AfterFed comment task.replace all x due c) text old.out out
    by_task text h = subst (λ (r : Bool). Appends (λ x. AfterFed comment r all x due c) text old.out out) replaces h

    module _ (none : old.created ≡ false) where
      before : HasInserted comment bytes [] old.insert × IsReading task comment bytes start b.desk
      before = holding task comment bytes start old.insert b.desk none (was.holds task comment start t)

      reading : IsReading task comment all start s1
      reading = reading_more piece b.most before.1 b.reads.kept b.reads.read

      fed : AfterFed comment task.replace all out due c
      fed = fed_text comment all old.out out task.replace due c was.empty (by_task [] (takes comment bytes [] before.0))

  sink_fed : (new : InsertSink) (s2 : DeskState) → StaysAs new s2 → ((task : Task) (comment : List ℕ) (start : DeskState) → IsTaskOf task comment start from → HoldsFor new.created task comment all start c s2) → IsFed InsertSink insert_kind from all (new, s2)
  sink_fed new s2 k holds = record {
    short = (let s = was.some in short s.0 s.1 s.2 new.created (holds s.0 s.1 s.2 s.3));
    fed = record {
      some = was.some;
      holds = λ task comment start t. subst (λ (i : Insert). HoldsFor new.created task comment all start i s2) (sym k.insert) (holds task comment start t);
      limits = subst (λ (i : Insert). i.limits ≡ standard_limits) (sym k.insert) limits;
      replace = subst (λ (i : Insert). i.replace ≡ from.0.insert.replace) (sym k.insert) (same ∙ was.replace);
      output = k.output ∙ was.output;
      empty = k.empty;
      works = works_then was.works (works_then b.reads.kept.copies.works k.works);
      created = k.created;
    };
  }
    where
      short : (task : Task) (comment : List ℕ) (start : DeskState) (created : Bool) → HoldsFor created task comment all start c s2 → length all < standard_limits.input
      short task comment start false h = fed_short comment all [] c limits h.0
      short task comment start true h = fed_short comment all h.0 c limits h.2

  -- no text is pending, before the output is created
  pub piece_passed : (new : InsertSink) → old.created ≡ false → new.created ≡ false → out ≡ [] → StaysAs new s1 → AfterFeed insert_kind from all due (new, s1)
  piece_passed new none still empty k = by due (λ task comment start t. fed t none)
    where
      by : (due : Result Bool Why) → ((task : Task) (comment : List ℕ) (start : DeskState) → IsTaskOf task comment start from → AfterFed comment task.replace all out due c) → AfterFeed insert_kind from all due (new, s1)
      by (Ok false) f = (
        sink_fed new s1 k (λ task comment start t. holding task comment all start c s1 (sym still) (subst (λ (text : List ℕ). HasInserted comment all text c) empty (f task comment start t), reading t none)),
        k.opened ∙ b.reads.opened,
      )
      by (Ok true) f = (let s = was.some in absurd (f s.0 s.1 s.2 s.3))
      by (Err w) f = (
        works_then was.works (works_then b.reads.kept.copies.works k.works),
        λ task comment start t.
            (let few = b.reads.few in
            ended_before w (before t none).1 b.reads.kept (ended b.desk s1 piece comment bytes out task.replace w old.insert c b.most was.limits (omega (arith, few)) (before t none).0 b.reads.read (f task comment start t) empty)),
      )

  -- its text was written, or not
  text_due : (answer : Result Bool Why) (new : InsertSink) (s2 : DeskState) → new.created ≡ true → StaysAs new s2 → ((task : Task) (comment : List ℕ) (start : DeskState) → IsTaskOf task comment start from → AfterDue task comment all start answer c s2) → AfterFeed insert_kind from all answer (new, s2)
  text_due (Ok false) new s2 created k h = (sink_fed new s2 k (λ task comment start t. holding task comment all start c s2 (sym created) (h task comment start t)), k.opened ∙ b.reads.opened)
  text_due (Ok true) new s2 created k h = (let s = was.some in absurd (h s.0 s.1 s.2 s.3))
  text_due (Err w) new s2 created k h = (works_then was.works (works_then b.reads.kept.copies.works k.works), h)

  module _ (none : old.created ≡ false) (some : 0 < length out) where
    at_head : {task : Task} {comment : List ℕ} {start : DeskState} → IsTaskOf task comment start from → IsAtHead all
    at_head {task} {comment} t =
        let few = b.reads.few in
        let nothing = nothing_there comment bytes old.insert was.limits (before t none).0 in
        fed_at_head bytes piece comment out task.replace due c limits some nothing.shows (omega (arith, few)) (fed t none)

    pub piece_uncreated : (new : InsertSink) (s2 : DeskState) → Creates s1 old.output.now put.Failed s2 → AfterFeed insert_kind from all (Err (why.OpenFault which.Output)) (new, s2)
    piece_uncreated new s2 k = (
      works_then was.works (works_then b.reads.kept.copies.works (creates_works k)),
      λ task comment start t. first_uncreated (at_head t) (reading t none) (subst (λ (n : Name). Creates s1 n put.Failed s2) (was.output ∙ sym t.output) k),
    )

    pub piece_first : (answer : Result Bool Why) (new : InsertSink) (now s2 : DeskState) → new.created ≡ true → StaysAs new s2 → Creates s1 old.output.now put.Done now → WritesRest due out now answer new.out s2 → AfterFeed insert_kind from all answer (new, s2)
    piece_first answer new now s2 created k made w = text_due answer new s2 created k (λ task comment start t.
        first_due out due c some (reading t none) (fed t none) answer new.out limits (same ∙ replaces t) (subst (λ (n : Name). Creates s1 n put.Done now) (was.output ∙ sym t.output) made) w)

  pub piece_later : (answer : Result Bool Why) (new : InsertSink) (s2 : DeskState) → old.created ≡ true → new.created ≡ true → StaysAs new s2 → WritesRest due out s1 answer new.out s2 → AfterFeed insert_kind from all answer (new, s2)
  piece_later answer new s2 done created k w = text_due answer new s2 created k (λ task comment start t.
      (let h = holding task comment bytes start old.insert b.desk done (was.holds task comment start t) in
      later_due h.3 due c b.reads b.most answer old.out out new.out limits (same ∙ replaces t) was.empty h.1 (by_task t h.0 (takes comment bytes h.0 h.2)) w))

-- THE END

pub insertion_ends : {from : InsertSink × DeskState} {bytes : List ℕ} {old : InsertSink} {s1 : DeskState} (new : InsertSink) (answer : Result (Option ℕ) Why) → BeforeEnd InsertSink insert_kind from bytes (old, s1)
    → ((comment all text : List ℕ) → HasInserted comment all text old.insert → AfterAll comment old.insert.replace all text answer) → EndsInsertion from answer (new, s1)
insertion_ends {from} {bytes} {old} {s1} new answer b ends =
    (works_then was.works b.ended.kept.copies.works, λ task comment start t. by task comment start old.created answer (was.replace ∙ sym t.replace) (was.holds task comment start t) (λ text h. ends comment bytes text h))
  where
    was : IsInserting from bytes (old, b.desk)
    was = b.fed.fed

    none : rest_of s1.left ≡ []
    none = ap rest_of b.ended.left ∙ none_left b.desk.left b.ended.ended

    by : (task : Task) (comment : List ℕ) (start : DeskState) (created : Bool) (answer : Result (Option ℕ) Why) → old.insert.replace ≡ task.replace → HoldsFor created task comment bytes start old.insert b.desk
        → ((text : List ℕ) → HasInserted comment bytes text old.insert → AfterAll comment old.insert.replace bytes text answer) → Inserted task start (ended_as answer) s1
    by task comment start false (Ok None) same h all = absurd (head_whole comment bytes old.insert.replace (all [] h.0))
    by task comment start false (Ok (Some n)) same h all = absurd (all [] h.0)
    by task comment start false (Err w) same h all = ended_before w h.1 b.ended.kept (head_ends b.desk s1 comment bytes old.insert.replace w old.insert was.limits h.0 b.ended.ended b.ended.left (all [] h.0))
    by task comment start true a same h all = rest_ends (writing_still h.3 b.ended.kept b.ended.left) a h.1 none (subst (λ (r : Bool). AfterAll comment r bytes h.0 a) same (all h.0 h.2))

-- ALL OF IT

pub insertion_begun : (sink : InsertSink) (s : DeskState) → ((task : Task) × (comment : List ℕ) × (start : DeskState) × IsTaskOf task comment start (sink, s)) → sink.insert.limits ≡ standard_limits → sink.out ≡ [] → sink.created ≡ false → IsFed InsertSink insert_kind (sink, s) [] (sink, s)
insertion_begun sink s some limits empty none = record {
  short = omega arith;
  fed = record {
    some = some;
    holds = λ task comment start t. holding task comment [] start sink.insert s (sym none) (t.inserts, t.reading);
    limits = limits;
    replace = refl;
    output = refl;
    empty = empty;
    works = (reads_none s).copies.works;
    created = λ is. absurd (let e : false ≡ true = sym none ∙ is in cc);
  };
}

pub all_inserted : (from now : InsertSink × DeskState) (answer : Result (Option ℕ) Why) → EndsAll insert_kind from answer now → EndsInsertion from answer now
all_inserted from now answer (inl h) = h
all_inserted from now answer (inr u) =
    subst (λ (a : Result (Option ℕ) Why). EndsInsertion from a now) (sym u.is) (works_then was.works u.failed.kept.copies.works, λ task comment start t. by task comment start now.0.created (was.replace ∙ sym t.replace) (was.holds task comment start t))
  where
    was : IsInserting from u.bytes (now.0, u.desk)
    was = u.fed.fed

    by : (task : Task) (comment : List ℕ) (start : DeskState) (created : Bool) → now.0.insert.replace ≡ task.replace → HoldsFor created task comment u.bytes start now.0.insert u.desk → Inserted task start (why.ReadFault which.Input) now.1
    by task comment start false same h = ended_before (why.ReadFault which.Input) h.1 u.failed.kept (head_unread comment u.bytes u.desk now.1 now.0.insert was.limits h.0 u.failed.rose u.failed.left)
    by task comment start true same h =
        let w = h.3 in
        let f = w.counts.reads in
        let r = u.failed.rose in
        rest_unread (writing_still w u.failed.kept u.failed.left) now.0.insert was.limits same h.1 h.2 (omega (arith, f, r))
