use Rattle.std.proofs.Common.{[], ◌∷◌, ◌++◌, List, ℕ, subst}
use Rattle.std.proofs.lemmas.List.{append_assoc}
use Rattle.jpg_markers.specs.Reading.{Comes, reading_of}
use Rattle.jpg_markers.proofs.Taking.{item_more}
use Rattle.jpg_markers.proofs.segments.SegmentReader.marker.Goals as goal

pub returns-clause-answered : goal.returns-clause-answered
returns-clause-answered c = λ bytes before s.
    let r = reading_of c.args.self.now in
    let filled = (item_more r bytes before c.requires.behind.1 s).1 in
    let all : List ℕ = bytes ++ 255 ∷ [] in
    subst (λ (b : List ℕ). Comes b before c.answer.result (reading_of c.answer.new.self)) (append_assoc bytes (255 ∷ []) (c.args.code ∷ []))
    (c.answer.ensures.goes (all ++ c.args.code ∷ []) before (c.code_byte-next.ensures.goes all before filled))
