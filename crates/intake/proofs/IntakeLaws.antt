-- The planning program's input step by step: too long, no words, or a run on its file and its asks.
-- Assumes nothing.
use Prim.Native.Nat.{ℕ, ◌/◌, ◌≤◌, ◌<◌}
use mathlib.Core.Path.{◌≡◌, refl, sym, ◌∙◌, ap, subst, subst₂}
use mathlib.Core.List.{List}
use lib.ListN.{length, take, drop}
use borrow.Author.Tests.{le-leb, lt-leb}
use Rattle.model.specs.declared.Layout.{Layout}
use Rattle.model.specs.Words.{layout_of, problem_of}
use Rattle.model.specs.Verdict as model
use Rattle.model.specs.Verdict.{accepted, refused, and_then}
use Rattle.model.specs.Bytes.{words_to, load_of, loaded_into, file_end}
use Rattle.model.specs.Refusal.{run_verdict}
use Rattle.model.specs.Asks.{ask_count, Outcome, Ran}
use Rattle.model.specs.Program.{input_words, input_file, input_asks, Planned, refused_plan, planned, planned_by}
use Rattle.std.specs.Prelude.{Ok, Err}
use Rattle.decoder.specs.declared.faults.Refusal.{Refusal}
use Rattle.input.proofs.LoadedLaws.{load_refused, load_accepted, load_front}
use Rattle.instance.proofs.FiledLaws.{file_of}
use Rattle.asks.proofs.VerdictLaws.{run_reads, run_admitted}
use Rattle.intake.specs.Answers.{RanFile, Sized}
use Rattle.intake.specs.Buffers.{input_verdict, RanInput}

-- ---- a run on a file and asks

module _ (file asks a₀ t₀ s₀ a t s : List ℕ) where
  due : model.Verdict
  due = run_verdict file asks (length t₀) (length a₀) (length s₀)

  came : (v : model.Verdict) → Ran v file asks a₀ t₀ s₀ a t s → Outcome due file asks a₀ t₀ s₀ a t s
  unfolding due
  came v ran = subst (λ (x : model.Verdict). Outcome x file asks a₀ t₀ s₀ a t s) ran.told ran.outcome

  -- turned away
  pub ran_refused : (number place : ℕ) → Ran (refused number place) file asks a₀ t₀ s₀ a t s → RanFile (refused_plan number place) file asks a₀ t₀ s₀ a t s
  unfolding due planned_by
  ran_refused number place ran = record {
    is = ap (λ (x : model.Verdict). planned_by x (problem_of file) (ask_count asks)) ran.told;
    outcome = came (refused number place) ran;
  }

  module _ (l : Layout) (ran : Ran accepted file asks a₀ t₀ s₀ a t s) (laid : l ≡ layout_of file) where
    -- answered
    pub ran_planned : RanFile (planned (length asks / 2) l.units l.weeks) file asks a₀ t₀ s₀ a t s
    unfolding due planned_by ask_count problem_of
    ran_planned = record {
      is =
          ap (λ (x : Layout). planned (length asks / 2) x.units x.weeks) laid
          ∙ ap (λ (x : model.Verdict). planned_by x (problem_of file) (ask_count asks)) ran.told;
      outcome = came accepted ran;
    }

    -- its blocks are there
    pub planned_sized : Sized (length a₀) (Ok record { asks = length asks / 2; units = l.units; weeks = l.weeks })
    unfolding ask_count
    planned_sized =
        let f = file_of file (run_reads file asks (length t₀) (length a₀) (length s₀) ran.told) in
        let ok = run_admitted file asks (length t₀) (length a₀) (length s₀) f refl ran.told in
        record {
          by = record {
            units = rw laid f.filed.units_most;
            weeks = rw laid f.filed.weeks_most;
            few = ok.few;
            within = rw laid ok.room;
          };
        }

-- nothing has to stand anywhere where the input is turned away
pub refused_sized : (words : ℕ) (r : Refusal) → Sized words (Err r)
refused_sized words r = record { by = tt }

-- the same of other names for the file and the asks
pub ran_split : (told : Planned) (file asks file' asks' a₀ t₀ s₀ a t s : List ℕ) → file ≡ file' → asks ≡ asks' → RanFile told file asks a₀ t₀ s₀ a t s
    → RanFile told file' asks' a₀ t₀ s₀ a t s
ran_split told file asks file' asks' a₀ t₀ s₀ a t s e f h = subst₂ (λ (x y : List ℕ). RanFile told x y a₀ t₀ s₀ a t s) e f h

-- ---- a program's input

-- by its verdict
by_verdict : (bs a₀ t₀ s₀ a t s : List ℕ) (v : model.Verdict) (told : Planned) → input_verdict bs (length t₀) (length a₀) (length s₀) ≡ v
    → told ≡ planned_by v (problem_of (input_file bs)) (ask_count (input_asks bs)) → Outcome v (input_file bs) (input_asks bs) a₀ t₀ s₀ a t s
    → RanInput told bs a₀ t₀ s₀ a t s
by_verdict bs a₀ t₀ s₀ a t s v told e is came = record {
  is = is ∙ ap (λ (x : model.Verdict). planned_by x (problem_of (input_file bs)) (ask_count (input_asks bs))) (sym e);
  outcome = subst (λ (x : model.Verdict). Outcome x (input_file bs) (input_asks bs) a₀ t₀ s₀ a t s) (sym e) came;
}

module _ (bs a₀ t₀ s₀ : List ℕ) where
  -- too long
  pub input_long : 32768 < length bs → RanInput (refused_plan 17 0) bs a₀ t₀ s₀ a₀ t₀ s₀
  unfolding input_verdict planned_by
  input_long h = by_verdict bs a₀ t₀ s₀ a₀ t₀ s₀ (refused 17 0) (refused_plan 17 0) (rw (lt-leb (length bs) 32768 h)) refl (refl, refl, refl)

  module _ (short : length bs ≤ 32768) where
    -- no words
    pub input_refused : (number place : ℕ) → model.refused_figure number place ≡ load_of bs 8192 → RanInput (refused_plan number place) bs a₀ t₀ s₀ a₀ t₀ s₀
    unfolding input_verdict planned_by and_then
    input_refused number place said =
        by_verdict bs a₀ t₀ s₀ a₀ t₀ s₀ (refused number place) (refused_plan number place)
        (rw (le-leb (length bs) 32768 short, load_refused bs 8192 number place said)) refl (refl, refl, refl)

    -- a run
    pub input_ran : (n : ℕ) → model.gives n ≡ load_of bs 8192 → (words ws front : List ℕ) → ws ≡ loaded_into (model.gives n) bs words → front ≡ take n ws
        → (end : ℕ) → end ≡ file_end bs → (told : Planned) (a t s : List ℕ)
        → RanFile told (take (end / 4) front) (drop (end / 4) front) a₀ t₀ s₀ a t s → RanInput told bs a₀ t₀ s₀ a t s
    unfolding input_verdict and_then input_file input_asks input_words
    input_ran n said words ws front left cut end e told a t s ran =
        by_verdict bs a₀ t₀ s₀ a t s (run_verdict (input_file bs) (input_asks bs) (length t₀) (length a₀) (length s₀)) told
        (rw (le-leb (length bs) 32768 short, load_accepted bs 8192 n said)) own.is own.outcome
      where
        whole : front ≡ words_to bs (length bs / 4)
        whole = load_front bs 8192 n said words ws front left cut

        own : RanFile told (input_file bs) (input_asks bs) a₀ t₀ s₀ a t s
        own =
            subst₂ (λ (k : ℕ) (x : List ℕ). RanFile told (take (k / 4) x) (drop (k / 4) x) a₀ t₀ s₀ a t s) e whole ran
