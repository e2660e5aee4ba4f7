use Rattle.std.proofs.Common.{ℕ, List, [], ◌∷◌, None, Some, refl}
use Rattle.jpg_spec.specs.NumberTexts.{NumberWord}
use Rattle.jpg_spec_write.specs.ScriptGrammar.{EntryWord}
use Rattle.jpg_spec_write.proofs.script_examples.texts_tell_scripts.Goals as goal

number : List ℕ → List ℕ → NumberWord
number gap digits = record { gap = gap; digits = digits }

-- a scan of component 0 after these bytes, by four numbers
entry : List ℕ → List NumberWord → EntryWord
entry gap band = record { components = record { numbers = record { gap = gap; digits = 48 ∷ [] } ∷ []; after = [] }; band = Some (record { numbers = band; after = [] }) }

pub returns-clause-half : goal.returns-clause-half
unfolding number entry
returns-clause-half c = record {
  word = record {
    ended = entry [] (number (32 ∷ []) (48 ∷ []) ∷ number (45 ∷ []) (48 ∷ []) ∷ number (44 ∷ []) (48 ∷ []) ∷ number (44 ∷ []) (49 ∷ []) ∷ [])
        ∷ entry (32 ∷ []) (number (32 ∷ []) (49 ∷ []) ∷ number (45 ∷ []) (54 ∷ 51 ∷ []) ∷ number (44 ∷ []) (48 ∷ []) ∷ number (44 ∷ []) (48 ∷ []) ∷ []) ∷ [];
    last = None;
    after = [];
  };
  formed = refl;
  spelled = refl;
  told = refl;
}

pub returns-clause-short : goal.returns-clause-short
unfolding number
returns-clause-short c = record {
  word = record {
    ended = [];
    last = Some (record { components = record { numbers = number (32 ∷ []) (48 ∷ []) ∷ []; after = 32 ∷ 32 ∷ 32 ∷ 32 ∷ 32 ∷ 32 ∷ 32 ∷ 32 ∷ 32 ∷ 32 ∷ 32 ∷ 32 ∷ [] }; band = None });
    after = [];
  };
  formed = refl;
  spelled = refl;
  told = refl;
}
