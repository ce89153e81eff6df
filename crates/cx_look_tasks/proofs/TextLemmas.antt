-- Lines, one after the other.
use Rattle.std.proofs.Common.{◌≡◌, ℕ, zero, suc, ◌+◌, ◌<◌, ◌≤◌, List, [], ◌∷◌, ◌++◌, length, take, drop, slice_get, Some, refl, sym, ap, ◌∙◌, arith, append_assoc, append-nil}
use Rattle.cx_region.specs.State.{RegionState, TerminalState}
use Rattle.cx_look_lines.specs.Words.{Lines}
use Rattle.cx_look_tasks.specs.Activities.{AreActivities, IsActivity}
use Rattle.cx_look_tasks.specs.Parts.Words.{of_one}
use Rattle.cx_look_tasks.specs.Tasks.{of_each}
use Rattle.cx_look_tasks.specs.declared.activities.Activity.{Activity}

-- what was written before, what is written of an item, and what is left
goes_on : (k : ℕ) (before after one whole : Lines) (rest : ℕ → Lines) → after ≡ before ++ one → one ++ rest (suc k) ≡ rest k
    → before ++ rest k ≡ whole → after ++ rest (k + 1) ≡ whole
goes_on k before after one whole rest written step so_far =
    let next : k + 1 ≡ suc k = omega arith in
    rw (next, written) (append_assoc before one (rest (suc k)) ∙ ap (λ t. before ++ t) step ∙ so_far)

done : (before whole rest : Lines) → rest ≡ [] → before ++ rest ≡ whole → before ≡ whole
done before whole rest empty so_far = sym (append-nil before) ∙ ap (λ t. before ++ t) (sym empty) ∙ so_far

-- ---- of terminals and what their tasks are doing
each_step : (f : List ℕ × TerminalState → Activity → Lines) (entries : List (List ℕ × TerminalState)) (activities : List Activity) (k : ℕ) (activity : Activity)
    → slice_get activities k ≡ Some activity
    → of_one (λ entry. f entry activity) (slice_get entries k) ++ of_each f (drop (suc k) entries) (drop (suc k) activities) ≡ of_each f (drop k entries) (drop k activities)
unfolding of_each
each_step f [] activities zero activity e = refl
each_step f [] activities (suc k) activity e = refl
each_step f (entry ∷ entries) [] k activity e = cc
each_step f (entry ∷ entries) (first ∷ activities) zero activity e = let same : first ≡ activity = cc in rw same refl
each_step f (entry ∷ entries) (first ∷ activities) (suc k) activity e = each_step f entries activities k activity e

no_activities : (f : List ℕ × TerminalState → Activity → Lines) (entries : List (List ℕ × TerminalState)) → of_each f entries [] ≡ []
unfolding of_each
no_activities f [] = refl
no_activities f (entry ∷ entries) = refl

all_dropped : (activities : List Activity) (k : ℕ) → length activities ≤ k → drop k activities ≡ []
all_dropped [] zero l = refl
all_dropped [] (suc k) l = refl
all_dropped (first ∷ activities) zero l = absurd (omega arith)
all_dropped (first ∷ activities) (suc k) l = all_dropped activities k (omega arith)

pub each_goes_on : (f : List ℕ × TerminalState → Activity → Lines) (entries : List (List ℕ × TerminalState)) (activities : List Activity) (k : ℕ) (activity : Activity)
    (before after whole : Lines) → slice_get activities k ≡ Some activity → after ≡ before ++ of_one (λ entry. f entry activity) (slice_get entries k)
    → before ++ of_each f (drop k entries) (drop k activities) ≡ whole → after ++ of_each f (drop (k + 1) entries) (drop (k + 1) activities) ≡ whole
each_goes_on f entries activities k activity before after whole e written so_far =
    goes_on k before after (of_one (λ entry. f entry activity) (slice_get entries k)) whole (λ k. of_each f (drop k entries) (drop k activities)) written
    (each_step f entries activities k activity e) so_far

pub each_done : (f : List ℕ × TerminalState → Activity → Lines) (entries : List (List ℕ × TerminalState)) (activities : List Activity) (k : ℕ) (before whole : Lines)
    → length activities ≤ k → before ++ of_each f (drop k entries) (drop k activities) ≡ whole → before ≡ whole
each_done f entries activities k before whole l so_far =
    done before whole (of_each f (drop k entries) (drop k activities)) (rw (all_dropped activities k l) (no_activities f (drop k entries))) so_far

-- ---- what the tasks are doing, a terminal at a time
more_activities : (region : RegionState) (entries : List (List ℕ × TerminalState)) (k : ℕ) (activities : List Activity) (activity : Activity)
    → k < length entries → ((entry : List ℕ × TerminalState) → slice_get entries k ≡ Some entry → IsActivity region entry.1 activity)
    → AreActivities region (take k entries) activities → AreActivities region (take (suc k) entries) (activities ++ activity ∷ [])
unfolding AreActivities
more_activities region [] k activities activity l is are = absurd (omega arith)
more_activities region (entry ∷ entries) zero [] activity l is are = (is entry refl, tt)
more_activities region (entry ∷ entries) zero (first ∷ activities) activity l is are = absurd are
more_activities region (entry ∷ entries) (suc k) [] activity l is are = absurd are
more_activities region (entry ∷ entries) (suc k) (first ∷ activities) activity l is are = (are.0, more_activities region entries k activities activity (omega arith) is are.1)

pub one_more_activity : (region : RegionState) (entries : List (List ℕ × TerminalState)) (k : ℕ) (activities after : List Activity) (activity : Activity)
    → k < length entries → ((entry : List ℕ × TerminalState) → slice_get entries k ≡ Some entry → IsActivity region entry.1 activity)
    → after ≡ activities ++ activity ∷ [] → AreActivities region (take k entries) activities → AreActivities region (take (k + 1) entries) after
one_more_activity region entries k activities after activity l is e are =
    let next : k + 1 ≡ suc k = omega arith in rw (next, e) (more_activities region entries k activities activity l is are)

all_taken : (entries : List (List ℕ × TerminalState)) (k : ℕ) → length entries ≤ k → take k entries ≡ entries
all_taken [] zero l = refl
all_taken [] (suc k) l = refl
all_taken (entry ∷ entries) zero l = absurd (omega arith)
all_taken (entry ∷ entries) (suc k) l = rw (all_taken entries k (omega arith)) refl

pub all_activities : (region : RegionState) (entries : List (List ℕ × TerminalState)) (k : ℕ) (activities : List Activity) → length entries ≤ k
    → AreActivities region (take k entries) activities → AreActivities region entries activities
all_activities region entries k activities l are = rw (all_taken entries k l) at are

pub no_activity : (region : RegionState) (entries : List (List ℕ × TerminalState)) → AreActivities region (take 0 entries) []
unfolding AreActivities
no_activity region entries = tt
