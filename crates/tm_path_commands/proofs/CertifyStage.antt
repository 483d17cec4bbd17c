-- What certifying gives as octets are read, and at their end.
use Rattle.std.proofs.Common.{◌≡◌, ◌⊎◌, inl, inr, ℕ, ◌+◌, ◌<◌, ◌≤◌, ◌∙◌, ◌++◌, refl, sym, ap, subst, arith, true, false, List, [], ◌∷◌, Option, Some, None, drop, drop-drop, length, map}
use Rattle.std.proofs.lemmas.List.{append-nil, drop-map}
use Rattle.std.specs.Option.{ForSome}
use Rattle.std.specs.Prelude.{IfSome}
use Rattle.tm_base.specs.Limits.{most_limit}
use Rattle.tm_config.specs.Accepted.{IsAccepted}
use Rattle.tm_config.specs.Configuration.{Configuration}
use Rattle.tm_conv.specs.Columns.{last_certified}
use Rattle.tm_conv.specs.Path.{registers, steps_size}
use Rattle.tm_conv.specs.declared.rates.Rate.{Rate}
use Rattle.tm_driver.specs.Staged.{Takes}
use Rattle.tm_driver.specs.Writing.{Text}
use Rattle.tm_driver.proofs.FedStage.{takes-more}
use Rattle.tm_driver.proofs.Writing.{are_out-more}
use Rattle.tm_viterbi.specs.Blocks.{AreBlocks}
use Rattle.tm_viterbi.specs.Settings.{Settings}
use Rattle.tm_viterbi.specs.Starts.{first_start}
use Rattle.tm_viterbi.specs.WindowBlock.{WindowBlock}
use Rattle.tm_viterbi.specs.WindowSizes.{stream_bound}
use Rattle.tm_windows.specs.Queue.{Queueing}
use Rattle.tm_windows.specs.Windows.{Windows, dropped_of, first_spot, kept_of}
use Rattle.tm_windows.specs.declared.choosing.Chosen.{Chosen}
use Rattle.tm_windows.proofs.FollowedRuns.{closed-dropped, kept-append}
use Rattle.tm_windows.proofs.ReadOctets.{kept-to}
use Rattle.tm_inner.specs.Inner.{AreInnerBlocks, BlocksAt, settings_of, soft_octets, soft_value, windows_of}
use Rattle.tm_inner.specs.InnerDecoding.{HasChosen, InnerDecoding, InnerDecoderStandsFor, IsQueueOf, ready_in}
use Rattle.tm_inner.specs.InnerWindows.{AreReadOf}
use Rattle.tm_inner.specs.Phase.{IsChosen, IsChosenBy, phase_octets, skip_of, skipped_at, with_phase}
use Rattle.tm_inner.specs.Receiving.{FirstAt, HasHanded}
use Rattle.tm_inner.proofs.DecoderReads.{Stays, given-none}
use Rattle.tm_inner.proofs.Decoders.{stands-first}
use Rattle.tm_inner.proofs.FollowedBits.{followed-few, followed-keep, followed-whole}
use Rattle.tm_inner.proofs.ReceivedBits.{length-soft}
use Rattle.tm_inner.proofs.Unfollowed.{blocks-unfollowed, first-unfollowed}
use Rattle.tm_cert_file.specs.Certificate.{AreCertified, IsCertificate}
use Rattle.tm_path_commands.specs.Certify.{TextAt}
use Rattle.tm_path_commands.specs.Certifying.{Certifier, Certifies, CertifiesAll, CertifiesDue, GaveReady, IsReadyText, certifier, starts_after}
use Rattle.tm_path_commands.proofs.CertifiedWindows.{Longer, certified-on, nothing-at, starts-on, text-longer, text-phase}

-- ---- windows before which nothing is dropped, of few octets

-- they keep no more steps than there are octets, up to the last that is certified
pub record StandFew (octets : List ℕ) (blocks : List WindowBlock) : Type 0 where
  pub dropped : dropped_of blocks ≡ 0
  pub kept : kept_of blocks ≤ length octets

pub few-first : (r : Option Rate) (c : Configuration) (phase : ℕ) (octets : List ℕ) (blocks : List WindowBlock)
    → c.follow ≡ false → FirstAt r c phase octets blocks → StandFew octets blocks
few-first None c phase octets blocks plain are =
    record { dropped = ap dropped_of are; kept = omega (arith, ap kept_of are) }
few-first (Some rate) c phase octets blocks plain are =
    let w = windows_of c rate in
    let soft = soft_octets c phase octets in
    let first = first-unfollowed c rate soft blocks plain are in
    record {
      dropped = closed-dropped (settings_of c rate) _ first.0 blocks first.1;
      kept =
          omega (
            arith,
            followed-keep w (first_spot w soft) are.0 blocks are.1,
            followed-few w soft blocks are,
            length-soft c phase octets,
          );
    }

none-dropped : (s : Settings) (starts : Option ℕ) (t n : ℕ) (octets : List ℕ) (blocks : List WindowBlock)
    → AreBlocks s.rate s.invert s.keep s.ahead starts t n octets blocks → dropped_of blocks ≡ 0
none-dropped s starts t n octets [] are = refl
none-dropped s starts t n octets (x ∷ xs) are =
    omega (arith, are.1.dropped, none-dropped s (Some x.end_state) _ _ _ xs are.2)

pub few-all : (r : Option Rate) (c : Configuration) (phase : ℕ) (octets : List ℕ) (blocks : List WindowBlock)
    (left : ℕ) → c.follow ≡ false → BlocksAt r c phase octets blocks left → StandFew octets blocks
few-all None c phase octets blocks left plain are =
    record { dropped = ap dropped_of are.0; kept = omega (arith, ap kept_of are.0) }
few-all (Some rate) c phase octets blocks left plain are =
    let soft = soft_octets c phase octets in
    let all = blocks-unfollowed c rate soft blocks left plain are in
    record {
      dropped = none-dropped (settings_of c rate) _ 0 all.count soft blocks all.are;
      kept =
          omega (
            arith,
            (followed-whole (windows_of c rate) soft blocks left are).few,
            length-soft c phase octets,
          );
    }

-- ---- the windows that are ready come after the others

-- the soft octets from where they begin
soft-from : (c : Configuration) (rate : Rate) (phase k n : ℕ) (given : List ℕ) → c.inner ≡ Some rate → n ≡ phase + k
    → drop n (phase_octets c given) ≡ drop k (soft_octets c phase given)
soft-from c rate phase k n given inner is =
    let f = soft_value c in
    let all = drop c.skip given in
    (λ i. drop (is i) (map f (drop (skipped_at (inner i) c) given)))
    ∙ sym (drop-drop k phase (map f all)) ∙ ap (drop k) (drop-map f phase all)

text-queue : (c : Configuration) (q : Queueing) (chosen : Option Chosen) (given : List ℕ) (start : Option ℕ)
    (blocks : List WindowBlock) (text more : List ℕ) → IsQueueOf c (Some q) → q.chosen ≡ chosen
    → dropped_of (blocks ++ q.ready) ≡ 0 → kept_of (blocks ++ q.ready) ≤ last_certified
    → AreReadOf (Some q) (phase_octets c given) blocks → start ≡ starts_after (first_start c.start) blocks
    → TextAt c.inner c (skip_of chosen) given blocks text → IsReadyText (Some q) start more
    → TextAt c.inner c (skip_of chosen) given (blocks ++ q.ready) (text ++ more)
text-queue c q chosen given start blocks text more of same dropped few read starts first second = go q.ready refl
  where
    rate : Rate
    rate = of.0

    s : Settings
    s = settings_of c rate

    settings : q.windows.settings ≡ s
    settings = ap (λ (w : Windows). w.settings) of.2

    phase : ℕ
    phase = skip_of chosen

    soft : List ℕ
    soft = soft_octets c phase given

    begun : IsCertificate s soft blocks text
    begun = subst (λ (r : Option Rate). TextAt r c phase given blocks text) of.1 first

    ends : IsCertificate s soft (blocks ++ q.ready) (text ++ more)
        → TextAt c.inner c phase given (blocks ++ q.ready) (text ++ more)
    ends = subst (λ (r : Option Rate). TextAt r c phase given (blocks ++ q.ready) (text ++ more)) (sym of.1)

    -- how, from where, at which step and with which octets the ready ones begin
    From : Type 0
    From = Settings × Option ℕ × ℕ × List ℕ

    After : From → List WindowBlock → Type 0
    After v l = AreCertified v.0.rate v.0.invert v.1 v.2 v.3 l more

    go : (ready : List WindowBlock) → q.ready ≡ ready
        → TextAt c.inner c phase given (blocks ++ q.ready) (text ++ more)
    go [] none =
        let nothing : more ≡ [] =
        subst (λ (l : List WindowBlock). After (q.windows.settings, start, q.run_t, q.read) l) none
        (second (λ index less. absurd (omega (arith, less, ap length none)))) in
        ends (subst (λ (l : List WindowBlock). IsCertificate s soft l (text ++ more))
        (sym (append-nil blocks) ∙ ap (λ (l : List WindowBlock). blocks ++ l) (sym none))
        (subst (IsCertificate s soft blocks) (sym (append-nil text) ∙ ap (λ (l : List ℕ). text ++ l) (sym nothing))
        begun))
    go (x ∷ xs) is =
        let there = read (omega (arith, ap length is)) in
        let size = steps_size q.windows.settings.rate 0 (kept_of blocks) in
        let from = skip_of q.chosen + dropped_of (blocks ++ q.ready) + size in
        let octets : q.read ≡ drop (steps_size rate 0 (kept_of blocks)) soft =
        there.octets ∙ soft-from c rate phase size from given of.1 (omega (arith, dropped, ap skip_of same))
        ∙ ap (λ (v : Settings). drop (steps_size v.rate 0 (kept_of blocks)) soft) settings in
        let step : q.run_t ≡ 0 + kept_of blocks = omega (arith, there.step) in
        let after = second (λ index less. omega (
          arith,
          there.step,
          few,
          kept-append blocks q.ready,
          kept-to index q.ready x less,
        )) in
        let left = drop (steps_size rate 0 (kept_of blocks)) soft in
        let begins : (q.windows.settings, start, q.run_t, q.read)
        ≡ (s, starts_after (first_start c.start) blocks, 0 + kept_of blocks, left) =
        λ i. (settings i, starts i, step i, octets i) in
        ends (certified-on s.rate s.invert (first_start c.start) 0 soft blocks q.ready text more begun
        (subst (λ (v : From). After v q.ready) begins after))

-- with no inner code there are none
text-none : (c : Configuration) (phase : ℕ) (given : List ℕ) (blocks : List WindowBlock) (text more : List ℕ)
    → c.inner ≡ None → TextAt c.inner c phase given blocks text → more ≡ []
    → TextAt c.inner c phase given (blocks ++ []) (text ++ more)
text-none c phase given blocks text more none first second =
    subst (λ (r : Option Rate). TextAt r c phase given (blocks ++ []) (text ++ more)) (sym none)
    (ap (λ (l : List ℕ). l ++ more)
    (subst (λ (r : Option Rate). TextAt r c phase given blocks text) none first) ∙ second)

text-ready : (c : Configuration) (o : Option Queueing) (chosen : Option Chosen) (given : List ℕ) (start : Option ℕ)
    (blocks : List WindowBlock) (text more : List ℕ) → IsQueueOf c o → HasChosen o chosen
    → StandFew given (blocks ++ ready_in o) → length given ≤ most_limit
    → AreReadOf o (phase_octets c given) blocks → start ≡ starts_after (first_start c.start) blocks
    → TextAt c.inner c (skip_of chosen) given blocks text → IsReadyText o start more
    → TextAt c.inner c (skip_of chosen) given (blocks ++ ready_in o) (text ++ more)
text-ready c None chosen given start blocks text more of same few within read starts first second =
    text-none c (skip_of chosen) given blocks text more of first second
text-ready c (Some q) chosen given start blocks text more of same few within read starts first second =
    text-queue c q chosen given start blocks text more of same few.dropped (omega (arith, few.kept, within)) read
    starts first second

-- ---- nothing was given yet

pub some-small : (start : Option ℕ) → ForSome start (λ register. register < registers)
    → IfSome start (λ register. register < registers)
some-small None small = tt
some-small (Some register) small = small register refl

no-blocks : (chosen : Option Chosen) (blocks : List WindowBlock) → [] ≡ with_phase chosen blocks → blocks ≡ []
no-blocks None [] is = refl
no-blocks None (x ∷ xs) is = absurd cc
no-blocks (Some chosen) blocks is = absurd cc

pub certifies-new : (c : Configuration) (d : InnerDecoding) (start : Option ℕ) → IsAccepted c → c.follow ≡ false
    → d.config ≡ c → HasHanded d [] [] → start ≡ first_start c.start → CertifiesDue d.config (certifier d start) [] []
certifies-new c d start accepted plain config h starts =
    let none = no-blocks _ h.read.blocks h.read.are in record {
      config = refl;
      drained = h.drained;
      so_far = h.so_far;
      certifies = record {
        accepted = subst IsAccepted (sym config) accepted;
        unfollowed = ap (λ (k : Configuration). k.follow) config ∙ plain;
        blocks = [];
        stands = subst (InnerDecoderStandsFor d []) none h.read.stands;
        start = starts ∙ ap (λ (k : Configuration). first_start k.start) (sym config);
        text = [];
        is_text = nothing-at d.config.inner d.config (skip_of d.chosen) [];
        are = record { out = refl; notes = refl };
      };
    }

-- ---- a decoder that is the same but for octets or the choice of its phase

-- its phase stays, or there is no window yet
phase-stays : (d now : InnerDecoding) (given later : List ℕ) (blocks more : List WindowBlock)
    → now.config ≡ d.config → Stays d now → InnerDecoderStandsFor d given blocks
    → InnerDecoderStandsFor now later more → (blocks ≡ []) ⊎ (skip_of d.chosen ≡ skip_of now.chosen)
phase-stays d now given later blocks more config stays s w = elim s.choice as
    (λ _. (blocks ≡ []) ⊎ (skip_of d.chosen ≡ skip_of now.chosen)) [
      | inl waits ↦ inl waits.1
      | inr is ↦ inr (ap skip_of (go d.chosen refl is))
    ]
  where
    go : (chosen : Option Chosen) → d.chosen ≡ chosen → IsChosenBy d.config (phase_octets d.config given) chosen
        → chosen ≡ now.chosen
    go None same is =
        sym (given-none now.config (phase_octets now.config later) now.chosen more now.has_ended
        (ap (λ (c : Configuration). c.phase) config ∙ is) w.choice)
    go (Some chosen) same is = sym (stays chosen same)

-- the text of its windows, by what it is now
text-now : (d now : InnerDecoding) (given later : List ℕ) (blocks more : List WindowBlock) (text : List ℕ)
    → now.config ≡ d.config → Stays d now → InnerDecoderStandsFor d given blocks
    → InnerDecoderStandsFor now later more → TextAt d.config.inner d.config (skip_of d.chosen) later blocks text
    → TextAt now.config.inner now.config (skip_of now.chosen) later blocks text
text-now d now given later blocks more text config stays s w t =
    subst (λ (c : Configuration). TextAt c.inner c (skip_of now.chosen) later blocks text) (sym config)
    (text-phase d.config.inner d.config (skip_of d.chosen) (skip_of now.chosen) later blocks text
    (phase-stays d now given later blocks more config stays s w) t)

certifies-later : (d now : InnerDecoding) (start : Option ℕ) (given later : List ℕ) (done : List Text)
    → now.config ≡ d.config → Stays d now → (s : Certifies (certifier d start) given done)
    → InnerDecoderStandsFor now later s.blocks
    → TextAt d.config.inner d.config (skip_of d.chosen) later s.blocks s.text
    → Certifies (certifier now start) later done
certifies-later d now start given later done config stays s w t = record {
  accepted = subst IsAccepted (sym config) s.accepted;
  unfollowed = ap (λ (c : Configuration). c.follow) config ∙ s.unfollowed;
  blocks = s.blocks;
  stands = w;
  start = s.start ∙ ap (λ (c : Configuration). starts_after (first_start c.start) s.blocks) (sym config);
  text = s.text;
  is_text = text-now d now given later s.blocks s.blocks s.text config stays s.stands w t;
  are = s.are;
}

-- no octets come any more
pub certifies-settled : (d now : InnerDecoding) (start : Option ℕ) (given : List ℕ) (done : List Text)
    → now.config ≡ d.config → Stays d now → (s : Certifies (certifier d start) given done)
    → InnerDecoderStandsFor now given s.blocks → Certifies (certifier now start) given done
certifies-settled d now start given done config stays s w =
    certifies-later d now start given given done config stays s w s.is_text

-- octets were put in
pub takes-filled : Longer → {T : Type 0} (took : T → Text → T → Type 0) (d now : InnerDecoding) (start : Option ℕ)
    (texts : T) (piece : List ℕ) → now.config ≡ d.config → Stays d now
    → ((given : List ℕ) (blocks : List WindowBlock) → length given + length piece < stream_bound
    → InnerDecoderStandsFor d given blocks → InnerDecoderStandsFor now (given ++ piece) blocks)
    → Takes took (λ _. Certifies) (λ _. Certifies) (certifier d start) (certifier now start) texts texts piece
takes-filled law took d now start texts piece config stays fills = record {
  texts = [];
  handed = refl;
  stands = λ new given done few s.
      subst (Certifies (certifier now start) (given ++ piece)) (sym (append-nil done))
      (certifies-later d now start given (given ++ piece) done config stays s
      (fills given s.blocks (omega (arith, few)) s.stands)
      (text-longer law d.config.inner d.config (skip_of d.chosen) given piece s.blocks s.text s.unfollowed
      (stands-first d given s.blocks s.stands) s.is_text));
}

-- ---- windows that were decoded

-- the decoder stands for their blocks, too
abbrev pub Decodes : InnerDecoding → InnerDecoding → Type 0
Decodes d now = (given : List ℕ) (blocks : List WindowBlock) → InnerDecoderStandsFor d given blocks
    → InnerDecoderStandsFor now given (blocks ++ ready_in now.queue)

-- and their octets are those that were put in
abbrev pub Reads : InnerDecoding → InnerDecoding → Type 0
Reads d now = (given : List ℕ) (blocks : List WindowBlock) → InnerDecoderStandsFor d given blocks
    → AreReadOf now.queue (phase_octets now.config given) blocks

pub takes-run : {T : Type 0} (took : T → Text → T → Type 0) (d now : InnerDecoding) (start next : Option ℕ)
    (texts texts_now : T) → now.config ≡ d.config → Stays d now → Decodes d now → Reads d now
    → GaveReady took now start next texts texts_now
    → Takes took (λ _. Certifies) (λ _. Certifies) (certifier d start) (certifier now next) texts texts_now []
takes-run took d now start next texts texts_now config stays decodes reads gave = record {
  texts = gave.gave.texts;
  handed = gave.gave.handed;
  stands = λ new given done few s.
      subst (λ (o : List ℕ). Certifies (certifier now next) o (done ++ gave.gave.texts)) (sym (append-nil given))
      (more given done (omega (arith, few)) s);
}
  where
    more : (given : List ℕ) (done : List Text) → length given ≤ most_limit → Certifies (certifier d start) given done
        → Certifies (certifier now next) given (done ++ gave.gave.texts)
    more given done within s =
        let c = now.config in
        let ready = ready_in now.queue in
        let w = decodes given s.blocks s.stands in
        let plain = ap (λ (k : Configuration). k.follow) config ∙ s.unfollowed in
        let starts = s.start ∙ ap (λ (k : Configuration). starts_after (first_start k.start) s.blocks) (sym config) in
        record {
          accepted = subst IsAccepted (sym config) s.accepted;
          unfollowed = plain;
          blocks = s.blocks ++ ready;
          stands = w;
          start =
              gave.next ∙ ap (λ (o : Option ℕ). starts_after o ready) starts
              ∙ sym (starts-on (first_start c.start) s.blocks ready);
          text = s.text ++ gave.text;
          is_text =
              text-ready c now.queue now.chosen given start s.blocks s.text gave.text gave.of gave.same
              (few-first c.inner c (skip_of now.chosen) given (s.blocks ++ ready) plain
              (stands-first now given (s.blocks ++ ready) w)) within (reads given s.blocks s.stands) starts
              (text-now d now given given s.blocks (s.blocks ++ ready) s.text config stays s.stands w s.is_text)
              gave.is;
          are = are_out-more done gave.gave.texts s.text gave.text s.are gave.gave.are;
        }

-- a run, after what was given before
pub takes-and_run : {T : Type 0} (took : T → Text → T → Type 0) (s : Certifier) (d now : InnerDecoding)
    (start next : Option ℕ) (texts middle texts_now : T) (first : List ℕ)
    → Takes took (λ _. Certifies) (λ _. Certifies) s (certifier d start) texts middle first
    → now.config ≡ d.config → Stays d now → Decodes d now → Reads d now
    → GaveReady took now start next middle texts_now
    → Takes took (λ _. Certifies) (λ _. Certifies) s (certifier now next) texts texts_now first
takes-and_run took s d now start next texts middle texts_now first before config stays decodes reads gave =
    let C : Certifier → Certifier → List ℕ → List Text → Type 0 = λ _. Certifies in
    subst (Takes took C C s (certifier now next) texts texts_now) (append-nil first)
    (takes-more took C C C s (certifier d start) (certifier now next) texts middle texts_now first [] before
    (takes-run took d now start next middle texts_now config stays decodes reads gave))

-- ---- the end

-- once no octets come any more the phase is chosen
pub ended-chosen : (d : InnerDecoding) (given : List ℕ) (blocks : List WindowBlock)
    → InnerDecoderStandsFor d given blocks → d.has_ended ≡ true → IsChosen d.config given d.chosen
ended-chosen d given blocks s ended = elim s.choice as (λ _. IsChosen d.config given d.chosen) [
  | inl waits ↦ absurd (let both : true ≡ false = sym ended ∙ waits.2 in cc)
  | inr is ↦ is
]

-- all windows, once the last one was decoded and given
pub certifies-all : {T : Type 0} (took : T → Text → T → Type 0) (d now : InnerDecoding) (start next : Option ℕ)
    (given : List ℕ) (done : List Text) (left : ℕ) (texts texts_now : T) → length given ≤ most_limit
    → now.config ≡ d.config → now.chosen ≡ d.chosen → IsChosen d.config given d.chosen
    → (s : Certifies (certifier d start) given done)
    → AreInnerBlocks d.config (skip_of d.chosen) given (s.blocks ++ ready_in now.queue) left
    → AreReadOf now.queue (phase_octets now.config given) s.blocks
    → (gave : GaveReady took now start next texts texts_now)
    → CertifiesAll d.config given (done ++ gave.gave.texts)
certifies-all took d now start next given done left texts texts_now within config chosen choice s are read gave =
    let c = d.config in
    let ready = ready_in now.queue in
    let own : IsQueueOf c now.queue = subst (λ (k : Configuration). IsQueueOf k now.queue) config gave.of in
    let few = few-all c.inner c (skip_of d.chosen) given (s.blocks ++ ready) left s.unfollowed are in
    record {
      text = s.text ++ gave.text;
      is_text = record {
        handed = with_phase d.chosen (s.blocks ++ ready);
        left = left;
        are_handed = record {
          chosen = d.chosen;
          choice = choice;
          items = s.blocks ++ ready;
          are_items = are;
          are = refl;
        };
        is_text =
            text-ready c now.queue d.chosen given start s.blocks s.text gave.text own
            (subst (HasChosen now.queue) chosen gave.same) few within
            (subst (λ (k : Configuration). AreReadOf now.queue (phase_octets k given) s.blocks) config read) s.start
            s.is_text gave.is;
      };
      are = are_out-more done gave.gave.texts s.text gave.text s.are gave.gave.are;
    }
