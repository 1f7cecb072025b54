mod RingSteps
